-- The 42 bits and the words as numbers.
--     distance-number           the places in which two numbers differ, as the code counts them
--     sent-at, sent-small       what stands in the table, and how large it is
--     far-number                the ones of an exclusive or are the places in which the bits differ from the word sent three times
--     far-most                  at most 42 of them
--     length_from, digits_from, number_small, number_more
--                               entries from a place on: how many, the digits of their number, how large it is, and with one more
--     all_from                  of bits they are those
--     near-told, best-told      what is read, by what the code found
-- Assumes nothing.
use mathlib.Core.Path.{◌≡◌, sym, ap, ◌∙◌, subst}
use mathlib.Core.Bool.{true}
use mathlib.Core.List.{List, [], ◌∷◌}
use Prim.Native.Nat.{ℕ, ◌+◌, ◌*◌, ◌/◌, ◌%◌, ◌^◌, ◌≤◌, ◌<◌}
use native.Mathlib.Nat.{mod-lt, mod-eq_of_lt}
use native.Mathlib.Omega.{arith}
use lib.Bits.{bit_xor, xor_lt}
use lib.Count as Count
use lib.ListN.{length, get_or, take, drop, length-drop}
use lib.Seq.{get_or-take, get_or-drop, length-take-le}
use Rattle.bits.specs.Answer.{accepted}
use Rattle.bits.specs.Bits.{ones, are_bits}
use Rattle.bits.specs.Digits.{value, digits, Below}
use Rattle.bits.proofs.Bits.{bits_below}
use Rattle.bits.proofs.Ones.{count-digits}
use Rattle.bits.proofs.Digits.{below-append, digits_value, below-tab, below-get_or, value-below, value-tab, value-tab-below}
use Rattle.bits.proofs.Table.{length-tab, get_or-tab, tab-ext, tab-get_or}
use Rattle.remainder.proofs.Register.{digits-xor}
use Rattle.code.specs.Words.{distance}
use Rattle.scale.proofs.Word.{word_of, below-scale_word}
use Rattle.nearest.specs.Reading.{thrice, away, read_scale}
use Rattle.nearest.specs.Search.{sent_table, bits_from, Holds, best_told}
use Rattle.nearest.specs.declared.Best.{Best}
use Rattle.nearest.proofs.Fewest.{single-read}
use Rattle.nearest.proofs.Search.{holds-told}
use Rattle.nearest.proofs.Thrice.{length-thrice, near-seven}

-- ---- numbers of n digits
pub distance-number : (n a b : ℕ) → a < 2 ^ n → b < 2 ^ n → Count.ones (bit_xor a b) ≡ distance (digits 2 n a) (digits 2 n b)
unfolding distance
distance-number n a b h k = count-digits n (bit_xor a b) (xor_lt n a b h k) ∙ ap ones (digits-xor n a b)

-- ---- the words sent three times
below-thrice : (n : ℕ) → Below 2 (thrice (word_of n))
below-thrice n =
    let b = below-scale_word (n / 8) (n % 8) in
    below-append 2 (word_of n) _ b (below-append 2 (word_of n) (word_of n) b b)

pub sent-small : (n : ℕ) → value 2 (thrice (word_of n)) < 2 ^ 42
sent-small n = rw (length-thrice n) at (value-below 2 (thrice (word_of n)) (below-thrice n))

pub sent-at : (words : List ℕ) (n : ℕ) → words ≡ sent_table → n < 64 → get_or words n 0 ≡ value 2 (thrice (word_of n))
unfolding sent_table
sent-at words n e h = ap (λ (l : List ℕ). get_or l n 0) e ∙ get_or-tab 64 (λ k. value 2 (thrice (word_of k))) n 0 h

pub far-number : (n x : ℕ) → x < 2 ^ 42 → Count.ones (bit_xor (value 2 (thrice (word_of n))) x) ≡ away (digits 2 42 x) n
unfolding away
far-number n x h =
    distance-number 42 (value 2 (thrice (word_of n))) x (sent-small n) h
    ∙ ap (λ (l : List ℕ). distance l (digits 2 42 x)) (digits_value 2 42 (thrice (word_of n)) (below-thrice n) (length-thrice n))

pub far-most : (n x : ℕ) → x < 2 ^ 42 → Count.ones (bit_xor (value 2 (thrice (word_of n))) x) ≤ 42
far-most n x h = Count.ones-le 42 (bit_xor (value 2 (thrice (word_of n))) x) (xor_lt 42 (value 2 (thrice (word_of n))) x (sent-small n) h)

-- ---- the bits
module _ (bits : List ℕ) (at n : ℕ) where
  digit : (j : ℕ) → get_or bits (at + j) 0 % 2 < 2
  digit j = mod-lt (get_or bits (at + j) 0) (omega arith)

  pub length_from : length (bits_from bits at n) ≡ n
  unfolding bits_from
  length_from = length-tab n (λ j. get_or bits (at + j) 0 % 2)

  below-from : Below 2 (bits_from bits at n)
  unfolding bits_from
  below-from = below-tab 2 n (λ j. get_or bits (at + j) 0 % 2) (λ j h. digit j)

  pub digits_from : digits 2 n (value 2 (bits_from bits at n)) ≡ bits_from bits at n
  digits_from = digits_value 2 n (bits_from bits at n) below-from length_from

  pub number_small : value 2 (bits_from bits at n) < 2 ^ n
  unfolding bits_from
  number_small = value-tab-below 2 n (λ j. get_or bits (at + j) 0 % 2) (λ j h. digit j)

  -- one bit more, as the code adds it
  pub number_more : value 2 (bits_from bits at (n + 1)) ≡ value 2 (bits_from bits at n) * 2 + get_or bits (at + n) 0 % 2
  unfolding bits_from
  number_more = value-tab 2 n (λ j. get_or bits (at + j) 0 % 2)

  pub all_from : are_bits bits ≡ true → at + n ≤ length bits → bits_from bits at n ≡ take n (drop at bits)
  unfolding bits_from
  all_from t size =
      let sized : n ≤ length (drop at bits) = rw (length-drop at bits) (omega arith) in
      tab-ext n (λ j. get_or bits (at + j) 0 % 2) (λ j. get_or (take n (drop at bits)) j 0)
      (λ j h.
      mod-eq_of_lt (below-get_or 2 bits (at + j) (bits_below bits t) (omega arith))
      ∙ sym (get_or-drop at bits j 0) ∙ sym (get_or-take n (drop at bits) j 0 h))
      ∙ sym (tab-get_or n (take n (drop at bits)) 0 (length-take-le n (drop at bits) sized))

-- ---- what the code found, of a number with the 42 bits as its digits
module _ (bits : List ℕ) (x : ℕ) (e : x ≡ value 2 (bits_from bits 0 42)) where
  are : digits 2 42 x ≡ bits_from bits 0 42
  are = ap (digits 2 42) e ∙ digits_from bits 0 42

  pub near-told : (n d : ℕ) → n < 64 → d ≡ away (digits 2 42 x) n → d ≤ 7 → accepted (n / 8 ∷ n % 8 ∷ d ∷ []) ≡ read_scale (bits_from bits 0 42)
  near-told n d h a l =
      let is : d ≡ away (bits_from bits 0 42) n = a ∙ ap (λ (w : List ℕ). away w n) are in
      ap (λ (k : ℕ). accepted (n / 8 ∷ n % 8 ∷ k ∷ [])) is
      ∙ sym (single-read (bits_from bits 0 42) n (near-seven (bits_from bits 0 42) (length_from bits 0 42) n h (omega arith)))

  pub best-told : (s : Best) → Holds (digits 2 42 x) 64 s → best_told s ≡ read_scale (bits_from bits 0 42)
  best-told s h = holds-told (bits_from bits 0 42) s (subst (λ (w : List ℕ). Holds w 64 s) are h)
