-- The register of a division as a number: a step on the number is a step on its binary digits.
--     digits-xor                              the digits of an exclusive or are the sums of the digits
--     step-odd                                of the bit brought down only the lowest digit counts
--     size, top                               what a shift gives; the digit that moves out at the top is 0 or 1
--     step-digits                             the step, at any degree: a register of n digits, a digit behind it, and a generator
--                                             whose coefficients are the n low digits of a number
--     turn, ended                             a step more of a word; all of it, as a number
--     whole, resumed, behind                  a division from the beginning; one that goes on behind a word, with zeros
--     remainder-digits, check-digits          a remainder and check bits are the digits of their numbers
--     small-remainder                         a remainder's number fits the register
--     remainder-number, check-number          what the public functions promise, for a generator whose coefficients are known
-- Assumes nothing.
use mathlib.Core.Path.{◌≡◌, refl, sym, ap, ap₂, ◌∙◌}
use mathlib.Core.List.{List, [], ◌∷◌, ◌++◌}
use Prim.Native.Nat.{ℕ, zero, suc, ◌+◌, ◌*◌, ◌/◌, ◌%◌, ◌^◌, ◌<◌, ◌≤◌}
use native.Mathlib.Nat.{mod-eq_of_lt, div-lt_iff_lt-mul, zero-mul, one-mul, mod-add-mod}
use native.Mathlib.Numerals.{add-one}
use native.Mathlib.Omega.{arith}
use borrow.Author.Tests.{le-leb}
use lib.Bits.{bit_xor, xor_shr, xor_mod}
use lib.Pow.{pow_pos, pow-lt}
use lib.ListN.{length, take, get_or}
use lib.Seq.{take-suc, take_all}
use Rattle.bits.specs.Digits.{value, digits}
use Rattle.bits.proofs.Digits.{length_digits, value-digits, digits_value, value-below, digits-zero, digits-cons, digits_low}
use Rattle.remainder.specs.Polynomial.{◌⊕◌, zeros, times}
use Rattle.remainder.specs.Remainder.{take_off, step, divide, remainder, check_bits, remainder_number, check_number}
use Rattle.remainder.proofs.Sum.{cons, ⊕-append, times_zero, times-one}
use Rattle.remainder.proofs.Division.{divide-append, length-remainder, below-remainder, length-check, below-check}

xor-bit : (x y : ℕ) → x < 2 → y < 2 → bit_xor x y ≡ (x + y) % 2
xor-bit zero zero h k = refl
xor-bit zero (suc zero) h k = refl
xor-bit zero (suc (suc y)) h k = absurd (omega arith)
xor-bit (suc zero) zero h k = refl
xor-bit (suc zero) (suc zero) h k = refl
xor-bit (suc zero) (suc (suc y)) h k = absurd (omega arith)
xor-bit (suc (suc x)) y h k = absurd (omega arith)

pub digits-xor : (n a b : ℕ) → digits 2 n (bit_xor a b) ≡ digits 2 n a ⊕ digits 2 n b
unfolding digits ◌⊕◌
digits-xor zero a b = refl
digits-xor (suc n) a b =
    ap₂ (λ (h l : ℕ). digits 2 n h ++ (l ∷ []))
    (xor_shr a b 1)
    (xor_mod a b 1 ∙ xor-bit (a % 2) (b % 2) (omega arith) (omega arith))
    ∙ ap (λ (l : List ℕ). l ++ ((a % 2 + b % 2) % 2 ∷ [])) (digits-xor n (a / 2) (b / 2))
    ∙ sym (⊕-append (digits 2 n (a / 2)) (digits 2 n (b / 2)) (a % 2 ∷ []) (b % 2 ∷ []) (length_digits 2 n (a / 2) ∙ sym (length_digits 2 n (b / 2))))

-- ---- the step
times-digits : (n x y : ℕ) → x < 2 → digits 2 n (x * y) ≡ times x (digits 2 n y)
times-digits n zero y h =
    ap (digits 2 n) (zero-mul y) ∙ digits-zero n ∙ ap zeros (sym (length_digits 2 n y)) ∙ sym (times_zero (digits 2 n y))
times-digits n (suc zero) y h = ap (digits 2 n) (one-mul y) ∙ sym (times-one (digits 2 n y))
times-digits n (suc (suc x)) y h = absurd (omega arith)

⊕-odd : (p q : List ℕ) (b : ℕ) → (p ++ (b % 2 ∷ [])) ⊕ q ≡ (p ++ (b ∷ [])) ⊕ q
unfolding ◌⊕◌
⊕-odd [] [] b = refl
⊕-odd [] (y ∷ q) b = cons (mod-add-mod b 2 y) refl
⊕-odd (x ∷ p) [] b = refl
⊕-odd (x ∷ p) (y ∷ q) b = cons refl (⊕-odd p q b)

pub step-odd : (g r : List ℕ) (b : ℕ) → step g r (b % 2) ≡ step g r b
unfolding step take_off ◌⊕◌
step-odd g [] b = refl
step-odd g (x ∷ r) b = ⊕-odd r (times x g) b

pub size : (n : ℕ) → n ≤ 31 → 1 * 2 ^ n % 2 ^ 32 ≡ 2 ^ n
size n h = ap (λ (k : ℕ). k % 2 ^ 32) (one-mul (2 ^ n)) ∙ mod-eq_of_lt (pow-lt {i = n} {j = 32} (omega arith))

-- a register reg of n digits and a digit d behind it
module _ (n reg d : ℕ) (small : reg < 2 ^ n) (digit : d < 2) where
  abbrev w : ℕ
  w = reg * 2 + d

  shifted : digits 2 (suc n) w ≡ digits 2 n reg ++ (d ∷ [])
  unfolding digits
  shifted = ap₂ (λ (h l : ℕ). digits 2 n h ++ (l ∷ [])) (omega arith) (omega arith)

  pub top : w / 2 ^ n < 2
  top = (div-lt_iff_lt-mul {k = 2 ^ n} {x = w} {y = 2} (pow_pos n)).1 (omega arith)

  pub step-digits : (generator : ℕ) → digits 2 n (bit_xor w (w / 2 ^ n * generator) % 2 ^ n) ≡ step (digits 2 n generator) (digits 2 n reg) d
  unfolding step take_off
  step-digits generator =
      digits_low n (bit_xor w (w / 2 ^ n * generator))
      ∙ digits-xor n w (w / 2 ^ n * generator)
      ∙ ap (λ (l : List ℕ). digits 2 n w ⊕ l) (times-digits n (w / 2 ^ n) generator top)
      ∙ ap (λ (x : ℕ). digits 2 n w ⊕ times x (digits 2 n generator)) (sym (mod-eq_of_lt top))
      ∙ ap (take_off (digits 2 n generator)) (sym (digits-cons n w) ∙ shifted)

-- ---- a remainder is the digits of its number
pub remainder-digits : (g w : List ℕ) → digits 2 (length g) (value 2 (remainder g w)) ≡ remainder g w
remainder-digits g w = digits_value 2 (length g) (remainder g w) (below-remainder g w) (length-remainder g w)

pub check-digits : (g w : List ℕ) → digits 2 (length g) (value 2 (check_bits g w)) ≡ check_bits g w
check-digits g w = digits_value 2 (length g) (check_bits g w) (below-check g w) (length-check g w)

-- ---- the division by numbers, step after step, from a remainder so far
pub turn : (n : ℕ) (g r w : List ℕ) (reg reg' i : ℕ) → digits 2 n reg ≡ divide g r (take i w) → i < length w
    → digits 2 n reg' ≡ step g (digits 2 n reg) (get_or w i 0) → digits 2 n reg' ≡ divide g r (take (i + 1) w)
unfolding divide
turn n g r w reg reg' i so_far within one =
    one ∙ ap (λ (l : List ℕ). step g l (get_or w i 0)) so_far ∙ sym (divide-append g r (take i w) (get_or w i 0 ∷ []))
    ∙ ap (divide g r) (sym (take-suc w i 0 within) ∙ ap (λ (k : ℕ). take k w) (sym (add-one i)))

pub ended : (n : ℕ) (g r w : List ℕ) (reg i : ℕ) → reg < 2 ^ n → length w ≤ i → digits 2 n reg ≡ divide g r (take i w) → reg ≡ value 2 (divide g r w)
ended n g r w reg i small all so_far =
    sym (mod-eq_of_lt small) ∙ sym (value-digits 2 n reg (omega arith)) ∙ ap (value 2) (so_far ∙ ap (divide g r) (take_all i w all))

-- from the beginning
pub whole : (n generator : ℕ) (w : List ℕ) → divide (digits 2 n generator) (zeros n) w ≡ remainder (digits 2 n generator) w
unfolding remainder
whole n generator w = ap (λ (k : ℕ). divide (digits 2 n generator) (zeros k) w) (sym (length_digits 2 n generator))

-- behind a word: the digits of its remainder's number are that remainder, from which the zeros lead to its check bits
pub resumed : (n generator : ℕ) (w : List ℕ) → digits 2 n (value 2 (remainder (digits 2 n generator) w)) ≡ remainder (digits 2 n generator) w
resumed n generator w =
    let g : List ℕ = digits 2 n generator in
    rw (length_digits 2 n generator) at (remainder-digits g w)

pub behind : (n generator : ℕ) (w : List ℕ)
    → divide (digits 2 n generator) (remainder (digits 2 n generator) w) (zeros n) ≡ check_bits (digits 2 n generator) w
unfolding remainder check_bits
behind n generator w =
    let g : List ℕ = digits 2 n generator in
    sym (divide-append g (zeros (length g)) w (zeros n))
    ∙ ap (λ (k : ℕ). divide g (zeros (length g)) (w ++ zeros k)) (sym (length_digits 2 n generator))

pub small-remainder : (n generator : ℕ) (w : List ℕ) → value 2 (remainder (digits 2 n generator) w) < 2 ^ n
small-remainder n generator w =
    let g : List ℕ = digits 2 n generator in
    rw (length-remainder g w, length_digits 2 n generator) at (value-below 2 (remainder g w) (below-remainder g w))

-- ---- the numbers that the public functions promise, for a generator whose coefficients are known
module _ (n generator : ℕ) (g : List ℕ) (short : n ≤ 31) (coefficients : digits 2 n generator ≡ g) (w : List ℕ) where
  pub remainder-number : remainder_number n generator w ≡ value 2 (remainder g w)
  unfolding remainder_number
  remainder-number = rw (le-leb n 31 short, coefficients)

  pub check-number : check_number n generator w ≡ value 2 (check_bits g w)
  unfolding check_number
  check-number = rw (le-leb n 31 short, coefficients)
