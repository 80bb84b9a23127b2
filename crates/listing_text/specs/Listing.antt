-- The text of a listing (document 01, "Reel file and listing"; document 02, P1).
--     line word n               a word, a blank, a number in decimal, and the end of the line
--     ending promised read      `end ok` where as many superframes were read as the header promises, else `end short`
--     seven_lines promised t     the listing of a reel whose header is good
--     listing a t               the whole listing, by what reading the header answered: its number alone where that refused
use Rattle.std.specs.Prelude.{ℕ, cond, List, [], ◌∷◌, ◌++◌, eqb, get_or}
use Rattle.bits.specs.Answer.{Answer}
use Rattle.bits.specs.Letters.{letters}
use Rattle.text.specs.Digits.{blank, decimal}
use Rattle.tally.specs.declared.Totals.{Totals}

abbrev pub newline : ℕ
newline = 10

unfoldable pub line : List ℕ → ℕ → List ℕ
line word n = word ++ ((blank ∷ []) ++ (decimal n ++ (newline ∷ [])))

unfoldable pub ending : ℕ → ℕ → List ℕ
ending promised read = cond (eqb promised read) (letters "end ok") (letters "end short") ++ (newline ∷ [])

unfoldable pub seven_lines : ℕ → Totals → List ℕ
seven_lines promised t =
    line (letters "superframes") t.superframes
    ++ (line (letters "lost") t.lost
    ++ (line (letters "sync") t.wrong
    ++ (line (letters "clean") t.clean
    ++ (line (letters "mended") t.mended
    ++ (line (letters "bad") t.bad
    ++ ending promised t.superframes)))))

unfoldable pub listing : Answer ℕ → Totals → List ℕ
listing a t = cond (eqb a.number 0) (seven_lines (get_or a.values 0 0) t) (line (letters "refused") a.number)
