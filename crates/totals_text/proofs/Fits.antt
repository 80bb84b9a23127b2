-- How long the text of running totals is.
--     Sixteen l, Held t     what the machine's types say of totals: sixteen numbers in a row, and every number has 32 bits
--     totals-fit            the text has at most 1,057 characters
--     totals-whole          so a buffer of so many bytes holds it from its first byte on: it is not refused, and stands there
-- Assumes nothing.
use mathlib.Core.Path.{◌≡◌, refl, ap, ◌∙◌}
use mathlib.Core.List.{List, ◌++◌}
use Prim.Native.Nat.{ℕ, ◌+◌, ◌^◌, ◌≤◌, ◌<◌}
use native.Mathlib.Nat.{zero-add}
use native.Mathlib.Omega.{arith}
use borrow.Author.Tests.{ne_eqb}
use lib.ListN.{length, drop, get_or, length-append}
use Rattle.std.specs.declared.result.Result.{Result}
use Rattle.std.specs.declared.result.Result.TheVariants.{Ok, Err}
use Rattle.bits.specs.Answer.{refused}
use Rattle.bits.specs.Digits.{Below}
use Rattle.bits.specs.Refused.{number_of}
use Rattle.bits.specs.declared.refusal.Refusal.{Refusal}
use Rattle.bits.specs.Letters.{letters}
use Rattle.bits.proofs.Digits.{below-get_or}
use Rattle.bits.proofs.Refused.{not_zero}
use Rattle.text.specs.Digits.{decimal}
use Rattle.text.specs.Page.{page}
use Rattle.text.specs.Entry.{entered_text}
use Rattle.text.proofs.Decimal.{decimal-short}
use Rattle.text.proofs.Entry.{entered-fits}
use Rattle.text_rows.specs.Turns.{next, in_turn}
use Rattle.text_rows.proofs.Turns.{length-turns}
use Rattle.reel.specs.Header.{header_answer}
use Rattle.reel.specs.declared.Header.{Header}
use Rattle.listing_text.specs.Listing.{line}
use Rattle.listing_text.proofs.Text.{length-line, length-ending, one-digit}
use Rattle.running.specs.Running.{given_in}
use Rattle.running.specs.declared.Running.{Running}
use Rattle.totals_text.specs.Totals.{counts_line, programme_line, totals_lines, totals_text}

abbrev pub Sixteen : List ℕ → Type 0
Sixteen l = (length l ≡ 16) × Below (2 ^ 32) l

pub record Held (t : Running) : Type 0 where
  pub taken : t.taken < 2 ^ 32
  pub lost : t.lost < 2 ^ 32
  pub clean : Sixteen t.clean
  pub mended : Sixteen t.mended
  pub bad : Sixteen t.bad

length-counts : (q clean mended bad : ℕ) → q < 16 → clean < 2 ^ 32 → mended < 2 ^ 32 → bad < 2 ^ 32 → length (counts_line q clean mended bad) ≤ 63
unfolding counts_line letters
length-counts q clean mended bad l c m b =
    let name = decimal-short 1 (q + 1) (omega (arith, l)) in
    let first = decimal-short 9 clean (omega (arith, c)) in
    let middle = decimal-short 9 mended (omega (arith, m)) in
    let last = length-line 9 (letters " bad") bad (omega (arith, b)) in
    rw (
      length-append (decimal (q + 1)) (letters " clean" ++ (next clean ++ (letters " mended" ++ (next mended ++ line (letters " bad") bad)))),
      length-append (decimal clean) (letters " mended" ++ (next mended ++ line (letters " bad") bad)),
      length-append (decimal mended) (line (letters " bad") bad),
    ) (omega (arith, name, first, middle, last))

narrow : (l : List ℕ) (q : ℕ) → q < 16 → Sixteen l → get_or l q 0 < 2 ^ 32
narrow l q h s = let n = s.0 in below-get_or (2 ^ 32) l q s.1 (omega (arith, h, n))

length-programmes : (clean mended bad : List ℕ) → Sixteen clean → Sixteen mended → Sixteen bad → length (in_turn 16 (programme_line clean mended bad)) ≤ 1008
unfolding programme_line
length-programmes clean mended bad c m b =
    length-turns 63 16 (programme_line clean mended bad)
    (λ q l. length-counts q (get_or clean q 0) (get_or mended q 0) (get_or bad q 0) l (narrow clean q l c) (narrow mended q l m) (narrow bad q l b))

length-lines : (promised : ℕ) (t : Running) → Held t → length (totals_lines promised t) ≤ 1057
unfolding totals_lines letters
length-lines promised t h =
    let given = given_in t.taken t.lost in
    let a = length-line 9 (letters "superframes") given (omega (arith, h.taken, h.lost)) in
    let b = length-line 9 (letters "lost") t.lost (omega (arith, h.lost)) in
    let c = length-programmes t.clean t.mended t.bad h.clean h.mended h.bad in
    let d = length-ending promised given in
    rw (
      length-append (line (letters "superframes") given) _,
      length-append (line (letters "lost") t.lost) _,
      length-append (in_turn 16 (programme_line t.clean t.mended t.bad)) _,
    ) (omega (arith, a, b, c, d))

pub refused-totals : (r : Refusal) (t : Running) → totals_text (refused (number_of r)) t ≡ line (letters "refused") (number_of r)
unfolding totals_text
refused-totals r t = rw (ne_eqb (number_of r) 0 (not_zero r)) refl

pub totals-fit : (h : Result Header Refusal) (t : Running) → Held t → length (totals_text (header_answer h) t) ≤ 1057
unfolding totals_text letters
totals-fit (Ok h) t l = length-lines h.count t l
totals-fit (Err r) t l =
    let d = length-line 0 (letters "refused") (number_of r) (one-digit r) in
    rw (ne_eqb (number_of r) 0 (not_zero r)) (omega (arith, d))

pub totals-whole :
    (out : List ℕ) (h : Result Header Refusal) (t : Running) → 1057 ≤ length out → Held t →
    let s = totals_text (header_answer h) t in
    entered_text (page out 0) s ≡ record { number = 0; page = page (s ++ drop (length s) out) (length s) }
totals-whole out h t room held =
    let s = totals_text (header_answer h) t in
    let fits = totals-fit h t held in
    entered-fits out s 0 (omega (arith, fits, room)) ∙ ap (λ (n : ℕ). record { number = 0; page = page (s ++ drop n out) n }) (zero-add (length s))
