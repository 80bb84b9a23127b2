-- Laws of scale words. A pair of factors l, r is the number n = 8 l + r, and its six bits are theirs.
--     six-bits, six-digits           the six bits of a pair
--     scale-word, length-scale_word, below-scale_word    a scale word is one of `code`; it has 14 bits
--     word_number                    as a number: the six bits, then the check bits
--     check-small, word_small        how large the check bits' number and the word's are
--     word-digits                    the word of its number
--     word-pair                      a scale word tells its pair
-- Assumes nothing.
use mathlib.Core.Path.{◌≡◌, sym, ap, ap₂, ◌∙◌}
use mathlib.Core.List.{List, [], ◌∷◌, ◌++◌}
use Prim.Native.Nat.{ℕ, ◌+◌, ◌*◌, ◌/◌, ◌%◌, ◌^◌, ◌<◌}
use native.Mathlib.Nat.{mod-eq_of_lt, div-div-eq-div-mul}
use native.Mathlib.Omega.{arith}
use lib.ListN.{length, take, length-append}
use Rattle.bits.specs.Digits.{value, digits, Below}
use Rattle.bits.proofs.Digits.{below-append, length_digits, below-digits, digits_append, value-append, value-below, value-digits, digits_value, digits_low}
use Rattle.remainder.specs.Remainder.{check_bits}
use Rattle.remainder.proofs.Division.{length-check, below-check}
use Rattle.code.specs.Generators.{scale_generator}
use Rattle.code.specs.Words.{ScaleWord, encode}
use Rattle.code.proofs.Words.{encode-word, take-encode}
use Rattle.code.proofs.Smallest.{scale-size, scale-length}
use Rattle.scale.specs.Word.{scale_word}

abbrev pub word_of : ℕ → List ℕ
word_of n = scale_word (n / 8) (n % 8)

pub six-bits : (n : ℕ) → digits 2 3 (n / 8) ++ digits 2 3 (n % 8) ≡ digits 2 6 n
six-bits n = ap (λ (l : List ℕ). digits 2 3 (n / 8) ++ l) (digits_low 3 n) ∙ sym (digits_append 2 3 3 n)

pub six-digits : (n : ℕ) → n / 32 % 2 ∷ n / 16 % 2 ∷ n / 8 % 2 ∷ n / 4 % 2 ∷ n / 2 % 2 ∷ n % 2 ∷ [] ≡ digits 2 6 n
unfolding digits
six-digits n = simp div-div-eq-div-mul

module _ (l r : ℕ) where
  six-length : length (digits 2 3 l ++ digits 2 3 r) ≡ 6
  six-length = length-append (digits 2 3 l) (digits 2 3 r) ∙ ap₂ ◌+◌ (length_digits 2 3 l) (length_digits 2 3 r)

  pub scale-word : ScaleWord (scale_word l r)
  unfolding scale_word
  scale-word =
      encode-word 6 scale_generator (digits 2 3 l ++ digits 2 3 r)
      (below-append 2 (digits 2 3 l) (digits 2 3 r) (below-digits 2 3 l (omega arith)) (below-digits 2 3 r (omega arith))) six-length

  pub length-scale_word : length (scale_word l r) ≡ 14
  length-scale_word = scale-length (scale_word l r) scale-word

  pub below-scale_word : Below 2 (scale_word l r)
  below-scale_word = scale-word.bits

  pub take-scale_word : take 6 (scale_word l r) ≡ digits 2 3 l ++ digits 2 3 r
  unfolding scale_word
  take-scale_word = take-encode 6 scale_generator (digits 2 3 l ++ digits 2 3 r) six-length

pub check-small : (w : List ℕ) → value 2 (check_bits scale_generator w) < 256
check-small w = rw (length-check scale_generator w, scale-size) at (value-below 2 (check_bits scale_generator w) (below-check scale_generator w))

pub word_number : (n : ℕ) → n < 64 → value 2 (word_of n) ≡ n * 256 + value 2 (check_bits scale_generator (digits 2 6 n))
unfolding scale_word encode
word_number n h =
    rw (six-bits n, value-append 2 (digits 2 6 n) (check_bits scale_generator (digits 2 6 n)), length-check scale_generator (digits 2 6 n), scale-size, value-digits 2 6 n (omega arith))
    (ap (λ (m : ℕ). m * 256 + value 2 (check_bits scale_generator (digits 2 6 n))) (mod-eq_of_lt h))

pub word_small : (n : ℕ) → value 2 (word_of n) < 2 ^ 14
word_small n = rw (length-scale_word (n / 8) (n % 8)) at (value-below 2 (word_of n) (below-scale_word (n / 8) (n % 8)))

pub word-digits : (n : ℕ) → digits 2 14 (value 2 (word_of n)) ≡ word_of n
word-digits n = digits_value 2 14 (word_of n) (below-scale_word (n / 8) (n % 8)) (length-scale_word (n / 8) (n % 8))

pub word-pair : (n m : ℕ) → n < 64 → m < 64 → word_of n ≡ word_of m → n ≡ m
word-pair n m h k e =
    let same : digits 2 6 n ≡ digits 2 6 m =
    sym (six-bits n) ∙ sym (take-scale_word (n / 8) (n % 8)) ∙ ap (take 6) e ∙ take-scale_word (m / 8) (m % 8) ∙ six-bits m in
    sym (mod-eq_of_lt h) ∙ sym (value-digits 2 6 n (omega arith)) ∙ ap (value 2) same ∙ value-digits 2 6 m (omega arith) ∙ mod-eq_of_lt k
