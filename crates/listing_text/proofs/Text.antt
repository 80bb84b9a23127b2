-- The text of a listing.
--     document-case     document 01's reel of two: the definition gives its seven lines, letter by letter
--     length-line, length-ending    a line of a number below 10 to a power, and the last line, have at most so many characters
--     listing-fits      a listing of totals of 64 bits has at most 175 characters
--     listing-whole     so a buffer of so many bytes holds it from its first byte on: it is not refused, and stands there
-- Assumes nothing.
use mathlib.Core.Path.{◌≡◌, refl, ap, ◌∙◌}
use mathlib.Core.List.{List, [], ◌∷◌, ◌++◌}
use Prim.Native.Nat.{ℕ, suc, ◌+◌, ◌^◌, ◌≤◌, ◌<◌}
use native.Mathlib.Nat.{zero-add}
use native.Mathlib.Omega.{arith}
use borrow.Author.Tests.{ne_eqb}
use lib.Dec.{eqb}
use lib.ListN.{length, drop, length-append}
use Rattle.std.specs.declared.result.Result.{Result}
use Rattle.std.specs.declared.result.Result.TheVariants.{Ok, Err}
use Rattle.bits.specs.Answer.{accepted, refused}
use Rattle.bits.specs.Refused.{number_of}
use Rattle.bits.specs.declared.refusal.Refusal.{Refusal}
use Rattle.bits.specs.declared.refusal.Refusal.TheVariants.{Length, Range, Sync, Scale, Parity, Header as WrongHeader, Full}
use Rattle.bits.specs.Letters.{letters}
use Rattle.bits.proofs.Refused.{not_zero}
use Rattle.bits.proofs.Tests.{either_way}
use Rattle.text.specs.Page.{page}
use Rattle.text.specs.Entry.{entered_text}
use Rattle.text.specs.Digits.{decimal, decimal_in}
use Rattle.text.proofs.Decimal.{decimal-short}
use Rattle.text.proofs.Entry.{entered-fits}
use Rattle.reel.specs.Header.{header_answer}
use Rattle.reel.specs.declared.Header.{Header}
use Rattle.listing_text.specs.Listing.{line, ending, seven_lines, listing}
use Rattle.tally.specs.declared.Totals.{Totals}

pub document-case :
    listing (accepted (2 ∷ 16 ∷ [])) (record { superframes = 2; lost = 1; wrong = 0; clean = 512; mended = 0; bad = 0 })
    ≡ letters "superframes 2\nlost 1\nsync 0\nclean 512\nmended 0\nbad 0\nend ok\n"
unfolding listing seven_lines line ending letters decimal_in
document-case = refl

pub length-line : (k : ℕ) (word : List ℕ) (n : ℕ) → n < 10 ^ suc k → length (line word n) ≤ length word + k + 3
unfolding line
length-line k word n h =
    let d = decimal-short k n h in
    rw (length-append word ((32 ∷ []) ++ (decimal n ++ (10 ∷ []))), length-append (decimal n) (10 ∷ [])) (omega (arith, d))

length-wide : (word : List ℕ) (n : ℕ) → n < 2 ^ 64 → length (line word n) ≤ length word + 22
length-wide word n h = let l = length-line 19 word n (omega (arith, h)) in omega (arith, l)

pub length-ending : (promised read : ℕ) → length (ending promised read) ≤ 10
unfolding ending letters
length-ending promised read = either_way (eqb promised read) (λ e. rw e (omega arith)) (λ e. rw e (omega arith))

-- each total is a number of 64 bits
pub record Held (t : Totals) : Type 0 where
  pub superframes : t.superframes < 2 ^ 64
  pub lost : t.lost < 2 ^ 64
  pub wrong : t.wrong < 2 ^ 64
  pub clean : t.clean < 2 ^ 64
  pub mended : t.mended < 2 ^ 64
  pub bad : t.bad < 2 ^ 64

length-seven : (promised : ℕ) (t : Totals) → Held t → length (seven_lines promised t) ≤ 175
unfolding seven_lines letters
length-seven promised t h =
    let a = length-wide (letters "superframes") t.superframes h.superframes in
    let b = length-wide (letters "lost") t.lost h.lost in
    let w = length-wide (letters "sync") t.wrong h.wrong in
    let c = length-wide (letters "clean") t.clean h.clean in
    let d = length-wide (letters "mended") t.mended h.mended in
    let e = length-wide (letters "bad") t.bad h.bad in
    let f = length-ending promised t.superframes in
    rw (
      length-append (line (letters "superframes") t.superframes) _,
      length-append (line (letters "lost") t.lost) _,
      length-append (line (letters "sync") t.wrong) _,
      length-append (line (letters "clean") t.clean) _,
      length-append (line (letters "mended") t.mended) _,
      length-append (line (letters "bad") t.bad) _,
    ) (omega (arith, a, b, w, c, d, e, f))

-- the number of a refusal is one digit, and not 0
pub one-digit : (r : Refusal) → number_of r < 10
one-digit Length = omega arith
one-digit Range = omega arith
one-digit Sync = omega arith
one-digit Scale = omega arith
one-digit Parity = omega arith
one-digit WrongHeader = omega arith
one-digit Full = omega arith

pub refused-listing : (r : Refusal) (t : Totals) → listing (refused (number_of r)) t ≡ line (letters "refused") (number_of r)
unfolding listing
refused-listing r t = rw (ne_eqb (number_of r) 0 (not_zero r)) refl

pub listing-fits : (h : Result Header Refusal) (t : Totals) → Held t → length (listing (header_answer h) t) ≤ 175
unfolding listing letters
listing-fits (Ok h) t l = length-seven h.count t l
listing-fits (Err r) t l =
    let d = length-line 0 (letters "refused") (number_of r) (one-digit r) in
    rw (ne_eqb (number_of r) 0 (not_zero r)) (omega (arith, d))

pub listing-whole :
    (out : List ℕ) (h : Result Header Refusal) (t : Totals) → 175 ≤ length out → Held t →
    let s = listing (header_answer h) t in
    entered_text (page out 0) s ≡ record { number = 0; page = page (s ++ drop (length s) out) (length s) }
listing-whole out h t room held =
    let s = listing (header_answer h) t in
    let fits = listing-fits h t held in
    entered-fits out s 0 (omega (arith, fits, room)) ∙ ap (λ (n : ℕ). record { number = 0; page = page (s ++ drop n out) n }) (zero-add (length s))
