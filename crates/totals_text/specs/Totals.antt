-- The text of running totals (document 02, P7). Programmes count from 0 here, and from 1 in the text.
--     counts_line q clean mended bad     the line of programme q: how many of its blocks were read clean, mended and bad
--     programme_line clean mended bad q  the same by what each programme has
--     totals_lines promised t            the text of a reel whose header is good: the superframes given, the lost ones among them, the sixteen programmes, and the
--                                       listing's last line
--     totals_text a t                    the whole text, by what reading the header answered: its number alone where that refused
use Rattle.std.specs.Prelude.{ℕ, ◌+◌, cond, List, ◌++◌, eqb, get_or}
use Rattle.bits.specs.Answer.{Answer}
use Rattle.bits.specs.Letters.{letters}
use Rattle.text_rows.specs.Turns.{next, in_turn}
use Rattle.listing_text.specs.Listing.{line, ending}
use Rattle.running.specs.Running.{given_in}
use Rattle.running.specs.declared.Running.{Running}

unfoldable pub counts_line : ℕ → ℕ → ℕ → ℕ → List ℕ
counts_line q clean mended bad =
    letters "programme"
    ++ (next (q + 1) ++ (letters " clean" ++ (next clean ++ (letters " mended" ++ (next mended ++ line (letters " bad") bad)))))

unfoldable pub programme_line : List ℕ → List ℕ → List ℕ → ℕ → List ℕ
programme_line clean mended bad q = counts_line q (get_or clean q 0) (get_or mended q 0) (get_or bad q 0)

unfoldable pub totals_lines : ℕ → Running → List ℕ
totals_lines promised t =
    let given = given_in t.taken t.lost in
    line (letters "superframes") given
    ++ (line (letters "lost") t.lost ++ (in_turn 16 (programme_line t.clean t.mended t.bad) ++ ending promised given))

unfoldable pub totals_text : Answer ℕ → Running → List ℕ
totals_text a t = cond (eqb a.number 0) (totals_lines (get_or a.values 0 0) t) (line (letters "refused") a.number)
