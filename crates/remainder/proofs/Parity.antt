-- A generator that x + 1 divides, one with an even number of ones in all and so an odd number below the leading one,
-- keeps the parity: a word and its remainder both have an even or both an odd number of ones.
--     even_step, even-divide, even-remainder
-- Assumes nothing.
use mathlib.Core.Path.{◌≡◌, sym, ap, ◌∙◌}
use mathlib.Core.List.{List, [], ◌∷◌, ◌++◌}
use Prim.Native.Nat.{ℕ, zero, suc, ◌+◌, ◌%◌, ◌<◌}
use native.Mathlib.Nat.{suc-ne-zero, add_comm, mod-add-mod, mod-eq_of_lt}
use native.Mathlib.Omega.{arith}
use lib.ListN.{length}
use Rattle.bits.specs.Digits.{Below}
use Rattle.bits.specs.Bits.{ones}
use Rattle.bits.proofs.Bits.{ones-append}
use Rattle.remainder.specs.Polynomial.{zeros, times}
use Rattle.remainder.specs.Remainder.{take_off, step, divide, remainder}
use Rattle.bits.proofs.Table.{length-snoc}
use Rattle.remainder.proofs.Sum.{length-zeros, below-zeros, length-times, times_zero, times-one}
use Rattle.remainder.proofs.Division.{length-step, below_step}
use Rattle.remainder.proofs.Ones.{ones-zeros, even-add, even-⊕}

module _ (g : List ℕ) (odd : ones g % 2 ≡ 1) where
  even-times : (x : ℕ) → x < 2 → ones (times x g) % 2 ≡ x
  even-times zero h = ap (λ (p : List ℕ). ones p % 2) (times_zero g) ∙ ap (λ (n : ℕ). n % 2) (ones-zeros (length g))
  even-times (suc zero) h = ap (λ (p : List ℕ). ones p % 2) (times-one g) ∙ odd
  even-times (suc (suc x)) h = absurd (omega arith)

  pub even_step : (r : List ℕ) (b : ℕ) → Below 2 r → length r ≡ length g → ones (step g r b) % 2 ≡ (ones r + b) % 2
  unfolding step take_off Below ones
  even_step [] b s h = absurd (none g h odd)
    where
      none : (p : List ℕ) → zero ≡ length p → ones p % 2 ≡ 1 → ⊥
      none [] h e = omega arith
      none (x ∷ p) h e = suc-ne-zero _ (sym h)
  even_step (x ∷ r) b s h =
      even-⊕ (r ++ (b ∷ [])) (times x g) (length-snoc r b ∙ h ∙ sym (length-times x g))
      ∙ together (ones r) b (ones (r ++ (b ∷ []))) (ones (times x g)) x (ones-append r (b ∷ [])) (even-times x s.0) s.0
    where
      together : (a b c t x : ℕ) → c ≡ a + (b % 2 + 0) → t % 2 ≡ x → x < 2 → (c + t) % 2 ≡ (x % 2 + a + b) % 2
      together a b c t x h k l =
          even-add c t x (k ∙ sym (mod-eq_of_lt l))
          ∙ ap (λ (m : ℕ). m % 2) (omega arith)
          ∙ mod-add-mod b 2 (a + x) ∙ ap (λ (m : ℕ). m % 2) (omega (arith, mod-eq_of_lt l))

  pub even-divide : (r w : List ℕ) → Below 2 r → length r ≡ length g → ones (divide g r w) % 2 ≡ (ones r + ones w) % 2
  unfolding divide ones
  even-divide r [] s h = ap (λ (n : ℕ). n % 2) (omega arith)
  even-divide r (b ∷ w) s h =
      even-divide (step g r b) w (below_step g r b) (length-step g r b h)
      ∙ together (ones (step g r b)) (ones r) b (ones w) (even_step r b s h)
    where
      together : (c a b d : ℕ) → c % 2 ≡ (a + b) % 2 → (c + d) % 2 ≡ (a + (b % 2 + d)) % 2
      together c a b d h =
          ap (λ (m : ℕ). m % 2) (add_comm c d) ∙ even-add d c (a + b) h
          ∙ ap (λ (m : ℕ). m % 2) (omega arith) ∙ sym (mod-add-mod b 2 (d + a)) ∙ ap (λ (m : ℕ). m % 2) (omega arith)

  pub even-remainder : (w : List ℕ) → ones (remainder g w) % 2 ≡ ones w % 2
  unfolding remainder
  even-remainder w =
      even-divide (zeros (length g)) w (below-zeros (length g)) (length-zeros (length g))
      ∙ ap (λ (n : ℕ). (n + ones w) % 2) (ones-zeros (length g)) ∙ ap (λ (n : ℕ). n % 2) (omega arith)
