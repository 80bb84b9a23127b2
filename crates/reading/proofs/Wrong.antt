-- The wrong places, in numbers, at every radius from 2 up to the largest.
--     wrong-found, wrong-none       a mask that fits gives them, however it was found; so does that there is none
--     as-few                        a mask that fits has at most three ones
--     as_many                       it has an even number of ones where the remainder has, and an odd one where that has: x + 1 divides the generator
--     low r, t i                    the remainder's number; what place i alone leaves
--     fits-zero, fits-at, fits-pair     the masks with at most two ones that fit, by equations of numbers
--     pair_fits                     and the equation of a pair that fits
--     none-fits                     where none of these equations holds, none of them fits
--     with_first, without-first     a triple fits where the pair of its last two fits what its first place leaves
--     wrong-zero, wrong-one, wrong-two, wrong-three     the wrong places, where a mask with so many ones fits
-- Assumes nothing.
use mathlib.Core.Path.{◌≡◌, refl, sym, ap, ap₂, ◌∙◌, subst}
use mathlib.Core.List.{List, [], ◌∷◌, ◌++◌}
use mathlib.Core.Option.{Option, none, some}
use Prim.Native.Nat.{ℕ, zero, suc, ◌+◌, ◌-◌, ◌%◌, ◌^◌, ◌≤◌, ◌<◌}
use native.Mathlib.Nat.{zero-add, not-suc-le-zero, le_of_suc-le-suc, mod-lt, mod-eq_of_lt}
use native.Mathlib.Omega.{arith}
use lib.Bits.{bit_xor, xor_lt}
use lib.Pow.{pow_pos}
use lib.ListN.{length, get_or, length-append, get_or-map}
use Rattle.bits.specs.Bits.{ones}
use Rattle.bits.specs.Digits.{value, digits}
use Rattle.bits.proofs.Digits.{length_digits, below-digits, value-digits, digits_value, value-below, digits-zero, digits_low}
use Rattle.remainder.specs.Polynomial.{◌⊕◌, zeros}
use Rattle.remainder.specs.Remainder.{remainder}
use Rattle.remainder.specs.Columns.{column, columns}
use Rattle.remainder.proofs.Sum.{cons, ⊕-self, ⊕-cancel, length-⊕, below-⊕, length-zeros, below-zeros}
use Rattle.remainder.proofs.Division.{remainder-zeros, remainder-short}
use Rattle.remainder.proofs.Ones.{ones-zeros, none-zeros}
use Rattle.remainder.proofs.Columns.{sum_at, length-columns, length-column, below-column}
use Rattle.remainder.proofs.Parity.{even-remainder}
use Rattle.remainder.proofs.Register.{digits-xor}
use Rattle.code.specs.Generators.{power, powers, block_generator}
use Rattle.code.proofs.Smallest.{block_size}
use Rattle.reading.specs.Reading.{largest_radius}
use Rattle.reading.specs.Search.{seek}
use Rattle.reading.specs.Wrong.{places_from, places_in, wrong_places, column_numbers}
use Rattle.reading.proofs.Seek.{Fits, Good, seek-good}
use Rattle.reading.proofs.Fixed.{Sought, fits-sought, sought-unique}
use Rattle.reading.proofs.Few.{at, pair, triple, length_at, below_at, ones-at, length-pair, below-pair, ones-pair, length-triple, below-triple, ones-triple, sum_at-zeros, sum_at-at, sum_at-pair, sum_at-triple, places-zeros, places-at, places-pair, places-triple, Few, zero-ones, one-one, two-ones, three-ones, few}

abbrev g : List ℕ
g = block_generator

abbrev cs : List (List ℕ)
cs = columns block_generator 63

abbrev pub Fitting : ℕ → ℕ → List ℕ → Type 0
Fitting radius r m = Fits radius (columns block_generator 63) (digits 2 19 r) m

odd-generator : ones block_generator % 2 ≡ 1
unfolding ones block_generator powers power ◌⊕◌
odd-generator = refl

module _ (radius : ℕ) (small : radius ≤ largest_radius) (r : ℕ) where
  -- a word with that remainder
  word : List ℕ
  word = zeros 44 ++ digits 2 19 r

  word_size : length word ≡ 63
  unfolding word
  word_size = length-append (zeros 44) (digits 2 19 r) ∙ ap (λ (n : ℕ). 44 + n) (length_digits 2 19 r)

  word-leaves : remainder g word ≡ digits 2 19 r
  unfolding word
  word-leaves =
      remainder-zeros g 44 (digits 2 19 r)
      ∙ remainder-short g (digits 2 19 r) (below-digits 2 19 r (omega arith)) (length_digits 2 19 r ∙ sym block_size)

  as-sought : (m : List ℕ) → Fitting radius r m → Sought radius word m
  as-sought m f = fits-sought radius word m (subst (λ (s : List ℕ). Fits radius cs s m) (sym word-leaves) f)

  pub as-few : (m : List ℕ) → Fitting radius r m → Few 63 m
  as-few m f = few 63 m (f.sized ∙ length-columns g 63) f.bits (omega (arith, f.few))

  pub as_many : (m : List ℕ) → Fitting radius r m → ones (digits 2 19 r) % 2 ≡ ones m % 2
  as_many m f = ap (λ (l : List ℕ). ones l % 2) (sym ((as-sought m f).same ∙ word-leaves)) ∙ even-remainder g odd-generator m

  one-fits : (m n : List ℕ) → Fitting radius r m → Fitting radius r n → m ≡ n
  one-fits m n f h = sought-unique radius word m n small word_size (as-sought m f) (as-sought n h)

  found-is : (m : List ℕ) → Fitting radius r m → (o : Option (List ℕ)) → Good radius cs (digits 2 19 r) o → places_in o ≡ some (places_from 0 m)
  unfolding Good places_in
  found-is m f none empty = absurd (empty m f)
  found-is m f (some n) h = ap (λ (l : List ℕ). some (places_from 0 l)) (one-fits n m h f)

  none_is : ((m : List ℕ) → Fitting radius r m → ⊥) → (o : Option (List ℕ)) → Good radius cs (digits 2 19 r) o → places_in o ≡ none
  unfolding Good places_in
  none_is empty none h = refl
  none_is empty (some n) h = absurd (empty n h)

  pub wrong-found : (m : List ℕ) → Fitting radius r m → wrong_places radius r ≡ some (places_from 0 m)
  unfolding wrong_places
  wrong-found m f = found-is m f (seek radius cs (digits 2 19 r)) (seek-good radius cs (digits 2 19 r))

  pub wrong-none : ((m : List ℕ) → Fitting radius r m → ⊥) → wrong_places radius r ≡ none
  unfolding wrong_places
  wrong-none empty = none_is empty (seek radius cs (digits 2 19 r)) (seek-good radius cs (digits 2 19 r))

-- ---- the columns as numbers
abbrev pub t : ℕ → ℕ
t i = get_or column_numbers i 0

abbrev pub low : ℕ → ℕ
low r = r % 2 ^ 19

get_or-columns : (h : List ℕ) (n i : ℕ) → i < n → get_or (columns h n) i [] ≡ column h (n - 1 - i)
unfolding columns
get_or-columns h zero i l = absurd (not-suc-le-zero l)
get_or-columns h (suc n) zero l = ap (column h) (omega arith)
get_or-columns h (suc n) (suc i) l = get_or-columns h n i (le_of_suc-le-suc l) ∙ ap (column h) (omega arith)

t-value : (i : ℕ) → i < 63 → t i ≡ value 2 (column g (63 - 1 - i))
unfolding column_numbers value
t-value i l = get_or-map (value 2) cs i [] ∙ ap (value 2) (get_or-columns g 63 i l)

t-column : (i : ℕ) → i < 63 → get_or cs i [] ≡ digits 2 19 (t i)
t-column i l =
    let c : List ℕ = column g (63 - 1 - i) in
    get_or-columns g 63 i l ∙ sym (digits_value 2 19 c (below-column g (63 - 1 - i)) (length-column g (63 - 1 - i) ∙ block_size)) ∙ ap (digits 2 19) (sym (t-value i l))

pub t-small : (i : ℕ) → i < 63 → t i < 2 ^ 19
t-small i l =
    let c : List ℕ = column g (63 - 1 - i) in
    rw (t-value i l) (rw (length-column g (63 - 1 - i), block_size) at (value-below 2 c (below-column g (63 - 1 - i))))

-- ---- two numbers of 19 digits are equal where the sum of their digits is zero
equal-zero : (a b : ℕ) → a ≡ b → ones (digits 2 19 a ⊕ digits 2 19 b) ≡ 0
equal-zero a b e = ap (λ (n : ℕ). ones (digits 2 19 a ⊕ digits 2 19 n)) (sym e) ∙ ap ones (⊕-self (digits 2 19 a)) ∙ ones-zeros (length (digits 2 19 a))

zero-equal : (a b : ℕ) → a < 2 ^ 19 → b < 2 ^ 19 → ones (digits 2 19 a ⊕ digits 2 19 b) ≡ 0 → a ≡ b
zero-equal a b ha hb e =
    sym (mod-eq_of_lt ha) ∙ sym (value-digits 2 19 a (omega arith)) ∙ ap (value 2) same ∙ value-digits 2 19 b (omega arith) ∙ mod-eq_of_lt hb
  where
    same : digits 2 19 a ≡ digits 2 19 b
    same =
        ⊕-cancel (digits 2 19 a) (digits 2 19 b) 19 (below-digits 2 19 a (omega arith)) (below-digits 2 19 b (omega arith)) (length_digits 2 19 a) (length_digits 2 19 b)
        (none-zeros (digits 2 19 a ⊕ digits 2 19 b) (below-⊕ (digits 2 19 a) (digits 2 19 b)) e
        ∙ ap zeros (length-⊕ (digits 2 19 a) (digits 2 19 b) (length_digits 2 19 a ∙ sym (length_digits 2 19 b)) ∙ length_digits 2 19 a))

module _ (r : ℕ) where
  low_small : low r < 2 ^ 19
  low_small = mod-lt r (pow_pos 19)

  sum-at : (i : ℕ) → i < 63 → sum_at cs (at 63 i) (digits 2 19 r) ≡ digits 2 19 (low r) ⊕ digits 2 19 (t i)
  sum-at i l =
      sum_at-at cs 63 i (digits 2 19 r) (length-columns g 63) l ∙ ap₂ ◌⊕◌ (sym (digits_low 19 r)) (t-column i l)

  sum-pair : (i j : ℕ) → i < j → j < 63 → sum_at cs (pair 63 i j) (digits 2 19 r) ≡ digits 2 19 (bit_xor (low r) (t i)) ⊕ digits 2 19 (t j)
  sum-pair i j h l =
      let li : i < 63 = omega arith in
      sum_at-pair cs 63 i j (digits 2 19 r) (length-columns g 63) h l
      ∙ ap₂ ◌⊕◌ (ap₂ ◌⊕◌ (sym (digits_low 19 r)) (t-column i li) ∙ sym (digits-xor 19 (low r) (t i))) (t-column j l)

-- ---- the masks that fit
module _ (radius : ℕ) (wide : 2 ≤ radius) (r : ℕ) where
  pub fits-zero : low r ≡ 0 → Fitting radius r (zeros 63)
  fits-zero e =
      record {
        sized = length-zeros 63 ∙ sym (length-columns g 63);
        bits = below-zeros 63;
        few = omega (arith, ones-zeros 63);
        none_left = ap ones (sum_at-zeros 63 cs (digits 2 19 r) ∙ sym (digits_low 19 r) ∙ ap (digits 2 19) e ∙ digits-zero 19) ∙ ones-zeros 19;
      }

  pub fits-at : (i : ℕ) → i < 63 → t i ≡ low r → Fitting radius r (at 63 i)
  fits-at i l e =
      record {
        sized = length_at 63 i ∙ sym (length-columns g 63);
        bits = below_at 63 i;
        few = omega (arith, ones-at 63 i l);
        none_left = ap ones (sum-at r i l) ∙ equal-zero (low r) (t i) (sym e);
      }

  pub fits-pair : (i j : ℕ) → i < j → j < 63 → t j ≡ bit_xor (low r) (t i) → Fitting radius r (pair 63 i j)
  fits-pair i j h l e =
      record {
        sized = length-pair 63 i j ∙ sym (length-columns g 63);
        bits = below-pair 63 i j;
        few = omega (arith, ones-pair 63 i j h l);
        none_left = ap ones (sum-pair r i j h l) ∙ equal-zero (bit_xor (low r) (t i)) (t j) (sym e);
      }

  pub pair_fits : (i j : ℕ) → i < j → j < 63 → Fitting radius r (pair 63 i j) → t j ≡ bit_xor (low r) (t i)
  pair_fits i j h l f =
      sym
      (zero-equal (bit_xor (low r) (t i)) (t j) (xor_lt 19 (low r) (t i) (low_small r) (t-small i (omega arith))) (t-small j l)
      (ap ones (sym (sum-pair r i j h l)) ∙ f.none_left))

  pub none-fits : (low r ≡ 0 → ⊥) → ((i : ℕ) → i < 63 → t i ≡ low r → ⊥) → ((i j : ℕ) → i < j → j < 63 → t j ≡ bit_xor (low r) (t i) → ⊥)
      → (m : List ℕ) → Fitting radius r m → ones m ≤ 2 → ⊥
  none-fits not-zero not-one not-two m f two = go (few 63 m (f.sized ∙ length-columns g 63) f.bits (omega arith))
    where
      left : (n : List ℕ) → m ≡ n → ones (sum_at cs n (digits 2 19 r)) ≡ 0
      left n e = ap (λ (l : List ℕ). ones (sum_at cs l (digits 2 19 r))) (sym e) ∙ f.none_left

      zeroed : ones (digits 2 19 r) ≡ 0 → low r ≡ 0
      zeroed e =
          zero-equal (low r) 0 (low_small r) (pow_pos 19)
          (ap ones (ap₂ ◌⊕◌ (digits_low 19 r ∙ none-zeros (digits 2 19 r) (below-digits 2 19 r (omega arith)) e ∙ ap zeros (length_digits 2 19 r)) (digits-zero 19)
          ∙ ⊕-self (zeros 19)) ∙ ones-zeros (length (zeros 19)))

      go : Few 63 m → ⊥
      go (zero-ones e) = not-zero (zeroed (ap ones (sym (sum_at-zeros 63 cs (digits 2 19 r))) ∙ left (zeros 63) e))
      go (one-one i l e) = not-one i l (sym (zero-equal (low r) (t i) (low_small r) (t-small i l) (ap ones (sym (sum-at r i l)) ∙ left (at 63 i) e)))
      go (two-ones i j h l e) = not-two i j h l (pair_fits i j h l (subst (Fitting radius r) e f))
      go (three-ones i j k a b l e) = omega (arith, two, ap ones e, ones-triple 63 i j k a b l)

-- ---- a first place and the rest
abbrev pub rest : ℕ → ℕ → ℕ
rest r i = bit_xor (low r) (t i)

module _ (r i : ℕ) (l : i < 63) where
  pub rest-small : rest r i < 2 ^ 19
  rest-small = xor_lt 19 (low r) (t i) (low_small r) (t-small i l)

  module _ (j k : ℕ) (h : i < j) (b : j < k) (w : k < 63) where
    same_sum : sum_at cs (triple 63 i j k) (digits 2 19 r) ≡ sum_at cs (pair 63 j k) (digits 2 19 (rest r i))
    same_sum =
        sum_at-triple cs 63 i j k (digits 2 19 r) (length-columns g 63) h b w
        ∙ ap (sum_at cs (pair 63 j k)) (sym (digits-xor 19 (low r) (t i) ∙ ap₂ ◌⊕◌ (digits_low 19 r) (sym (t-column i l))))

    pub with_first : Fitting 2 (rest r i) (pair 63 j k) → Fitting 3 r (triple 63 i j k)
    with_first f =
        record {
          sized = length-triple 63 i j k ∙ sym (length-columns g 63);
          bits = below-triple 63 i j k;
          few = omega (arith, ones-triple 63 i j k h b w);
          none_left = ap ones same_sum ∙ f.none_left;
        }

    pub without-first : Fitting 3 r (triple 63 i j k) → Fitting 2 (rest r i) (pair 63 j k)
    without-first f =
        record {
          sized = length-pair 63 j k ∙ sym (length-columns g 63);
          bits = below-pair 63 j k;
          few = omega (arith, ones-pair 63 j k b w);
          none_left = ap ones (sym same_sum) ∙ f.none_left;
        }

-- ---- the wrong places
module _ (radius : ℕ) (wide : 2 ≤ radius) (small : radius ≤ largest_radius) (r : ℕ) where
  pub wrong-zero : low r ≡ 0 → some [] ≡ wrong_places radius r
  wrong-zero e = ap some (sym (places-zeros 0 63)) ∙ sym (wrong-found radius small r (zeros 63) (fits-zero radius wide r e))

  pub wrong-one : (i : ℕ) → i < 63 → t i ≡ low r → some (i ∷ []) ≡ wrong_places radius r
  wrong-one i l e =
      ap some (sym (places-at 0 63 i l ∙ cons (zero-add i) refl)) ∙ sym (wrong-found radius small r (at 63 i) (fits-at radius wide r i l e))

  pub wrong-two : (i j : ℕ) → i < j → j < 63 → t j ≡ bit_xor (low r) (t i) → some (i ∷ j ∷ []) ≡ wrong_places radius r
  wrong-two i j h l e =
      ap some (sym (places-pair 0 63 i j h l ∙ cons (zero-add i) (cons (zero-add j) refl)))
      ∙ sym (wrong-found radius small r (pair 63 i j) (fits-pair radius wide r i j h l e))

pub wrong-three : (r i j k : ℕ) → i < j → j < k → k < 63 → Fitting 3 r (triple 63 i j k) → some (i ∷ j ∷ k ∷ []) ≡ wrong_places 3 r
wrong-three r i j k h b w f =
    ap some (sym (places-triple 0 63 i j k h b w ∙ cons (zero-add i) (cons (zero-add j) (cons (zero-add k) refl))))
    ∙ sym (wrong-found 3 (omega arith) r (triple 63 i j k) f)
