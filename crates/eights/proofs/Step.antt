-- A step of eight bits, for every generator of a degree from 8 on: the law `divide-many` of `remainder` in numbers.
--     eight-digits      by a table that holds the check bits of each byte, the step is eight steps of the division
--     eight-small       and the register stays within its digits
-- Assumes nothing.
use mathlib.Core.Path.{◌≡◌, sym, ap, ap₂, ◌∙◌}
use mathlib.Core.List.{List, ◌++◌}
use Prim.Native.Nat.{ℕ, ◌+◌, ◌*◌, ◌/◌, ◌%◌, ◌^◌, ◌<◌}
use native.Mathlib.Nat.{mod-lt, mod-eq_of_lt}
use native.Mathlib.Omega.{arith}
use lib.Bits.{xor_lt}
use lib.ListN.{length, get_or}
use lib.Pow.{pow_pos, pow-add, high, low, shr_lt}
use Rattle.bits.specs.Digits.{value, digits}
use Rattle.bits.proofs.Digits.{length_digits, below-digits, digits_append, digits_low, value-below}
use Rattle.remainder.specs.Polynomial.{◌⊕◌}
use Rattle.remainder.specs.Remainder.{divide, check_bits}
use Rattle.remainder.proofs.Sum.{⊕-comm}
use Rattle.remainder.proofs.Division.{divide-many, length-check, below-check}
use Rattle.remainder.proofs.Register.{digits-xor, check-digits}
use Rattle.eights.specs.Eights.{step_by}

-- a table t for a generator of the degree 8 + m
module _ (g : List ℕ) (m : ℕ) (t : List ℕ) (degree : length g ≡ 8 + m)
    (rule : (k : ℕ) → k < 2 ^ 8 → get_or t k 0 ≡ value 2 (check_bits g (digits 2 8 k))) where
  module _ (reg byte : ℕ) (fits : reg < 2 ^ (8 + m)) (small : byte < 2 ^ 8) where
    abbrev top : ℕ
    top = reg / 2 ^ m

    top_small : top < 2 ^ 8
    top_small = shr_lt 8 m fits

    entry : get_or t (top % 2 ^ 8) 0 ≡ value 2 (check_bits g (digits 2 8 top))
    entry = ap (λ (k : ℕ). get_or t k 0) (mod-eq_of_lt top_small) ∙ rule top top_small

    brought : digits 2 (m + 8) (reg % 2 ^ m * 2 ^ 8 + byte) ≡ digits 2 m reg ++ digits 2 8 byte
    brought =
        digits_append 2 m 8 (reg % 2 ^ m * 2 ^ 8 + byte)
        ∙ ap₂ ◌++◌
        (ap (digits 2 m) (high (reg % 2 ^ m) 8 small) ∙ digits_low m reg)
        (sym (digits_low 8 (reg % 2 ^ m * 2 ^ 8 + byte)) ∙ ap (digits 2 8) (low (reg % 2 ^ m) 8 small))

    entry-digits : digits 2 (8 + m) (get_or t (top % 2 ^ 8) 0) ≡ check_bits g (digits 2 8 top)
    entry-digits = ap₂ (digits 2) (sym degree) entry ∙ check-digits g (digits 2 8 top)

    pub eight-digits : digits 2 (8 + m) (step_by m t reg byte) ≡ divide g (digits 2 (8 + m) reg) (digits 2 8 byte)
    unfolding step_by
    eight-digits =
        digits-xor (8 + m) (reg % 2 ^ m * 2 ^ 8 + byte) (get_or t (top % 2 ^ 8) 0)
        ∙ ap₂ ◌⊕◌ (ap (λ (n : ℕ). digits 2 n (reg % 2 ^ m * 2 ^ 8 + byte)) (omega arith) ∙ brought) entry-digits
        ∙ ⊕-comm (digits 2 m reg ++ digits 2 8 byte) (check_bits g (digits 2 8 top))
        ∙ sym
        (divide-many g (digits 2 8 top) (digits 2 m reg) (digits 2 8 byte)
        (below-digits 2 8 top (omega arith)) (below-digits 2 m reg (omega arith)) (below-digits 2 8 byte (omega arith))
        (ap₂ ◌+◌ (length_digits 2 8 top) (length_digits 2 m reg) ∙ sym degree) (length_digits 2 8 byte ∙ sym (length_digits 2 8 top)))
        ∙ ap (λ (r : List ℕ). divide g r (digits 2 8 byte)) (sym (digits_append 2 8 m reg))

    entry-small : get_or t (top % 2 ^ 8) 0 < 2 ^ (8 + m)
    entry-small =
        rw (entry, ← degree, ← length-check g (digits 2 8 top)) (value-below 2 (check_bits g (digits 2 8 top)) (below-check g (digits 2 8 top)))

    brought-small : reg % 2 ^ m * 2 ^ 8 + byte < 2 ^ (8 + m)
    brought-small = rw (pow-add 2 8 m) (omega (arith, mod-lt reg (pow_pos m)))

    pub eight-small : step_by m t reg byte < 2 ^ (8 + m)
    unfolding step_by
    eight-small = xor_lt (8 + m) (reg % 2 ^ m * 2 ^ 8 + byte) (get_or t (top % 2 ^ 8) 0) brought-small entry-small
