-- Words of endings.
--     kind_of e        which of the nine ways to end this is
--     words-apart     two ways to end that are said in the same word are of one kind
--     error-fits      a line of an error of 32 bits has at most 12 letters more than its word, which is `read` or `write`
-- Assumes nothing.
use mathlib.Core.Path.{◌≡◌, refl, sym, ap, ◌∙◌}
use mathlib.Core.Bool.{cond}
use mathlib.Core.List.{List, [], ◌∷◌, ◌++◌}
use Prim.Native.Nat.{ℕ, ◌+◌, ◌*◌, ◌^◌, ◌<◌, ◌≤◌}
use native.Mathlib.Omega.{arith}
use lib.Dec.{eqb}
use Rattle.std.specs.Prelude.{Result, Ok, Err}
use lib.ListN.{length, get_or, length-append}
use Rattle.bits.specs.Letters.{letters}
use Rattle.text.specs.Digits.{blank, decimal}
use Rattle.text.proofs.Decimal.{decimal-short}
use Rattle.ending.specs.declared.Fault.{Fault}
use Rattle.ending.specs.declared.Fault.TheVariants.{Short, HeaderShort, CountTooLarge, OffsetTooSmall, HasSummary, NoRadius, NotRead, NotWritten}
use Rattle.ending.specs.Word.{error_line, word_of}

abbrev pub kind_of : Result Unit Fault → ℕ
kind_of (Ok tt) = 0
kind_of (Err Short) = 1
kind_of (Err HeaderShort) = 2
kind_of (Err CountTooLarge) = 3
kind_of (Err OffsetTooSmall) = 4
kind_of (Err HasSummary) = 5
kind_of (Err (NotRead e)) = 6
kind_of (Err (NotWritten e)) = 7
kind_of (Err NoRadius) = 8

-- the first two letters tell
abbrev first_two : List ℕ → ℕ
first_two w = get_or w 0 0 * 256 + get_or w 1 0

abbrev heard : List ℕ → ℕ
heard w =
    cond (eqb (first_two w) (first_two (letters "ok"))) 0
    (cond (eqb (first_two w) (first_two (letters "short"))) 1
    (cond (eqb (first_two w) (first_two (letters "header"))) 2
    (cond (eqb (first_two w) (first_two (letters "count"))) 3
    (cond (eqb (first_two w) (first_two (letters "offset"))) 4
    (cond (eqb (first_two w) (first_two (letters "summary"))) 5
    (cond (eqb (first_two w) (first_two (letters "radius"))) 8 (cond (eqb (first_two w) (first_two (letters "read"))) 6 7)))))))

heard-kind : (e : Result Unit Fault) → heard (word_of e) ≡ kind_of e
unfolding letters error_line
heard-kind (Ok tt) = refl
heard-kind (Err Short) = refl
heard-kind (Err HeaderShort) = refl
heard-kind (Err CountTooLarge) = refl
heard-kind (Err OffsetTooSmall) = refl
heard-kind (Err HasSummary) = refl
heard-kind (Err NoRadius) = refl
heard-kind (Err (NotRead e)) = refl
heard-kind (Err (NotWritten e)) = refl

pub words-apart : (e e' : Result Unit Fault) → word_of e ≡ word_of e' → kind_of e ≡ kind_of e'
words-apart e e' same = sym (heard-kind e) ∙ (ap heard same ∙ heard-kind e')

pub error-fits : (word : List ℕ) (n : ℕ) → n < 2 ^ 32 → length (error_line word n) ≤ length word + 12
unfolding error_line
error-fits word n h =
    let d = decimal-short 9 n (omega (arith, h)) in
    rw (length-append word ((blank ∷ decimal n) ++ (10 ∷ [])), length-append (blank ∷ decimal n) (10 ∷ [])) (omega (arith, d))
