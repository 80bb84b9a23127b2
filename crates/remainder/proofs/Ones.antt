-- Laws of the number of ones.
--     ones-zeros                    none among zeros
--     ones-⊕                        a sum has at most as many as its two parts
--     even-add, even-⊕              and an even number fewer
--     none-zeros                    bits without a one are zeros
-- Assumes nothing.
use mathlib.Core.Path.{◌≡◌, refl, sym, ap, ◌∙◌}
use mathlib.Core.List.{List, [], ◌∷◌}
use Prim.Native.Nat.{ℕ, zero, suc, ◌+◌, ◌%◌, ◌<◌, ◌≤◌}
use native.Mathlib.Nat.{suc_inj, suc-ne-zero, mod-mod, add-mod, mod-add-mod, add-mod-mod}
use native.Mathlib.Omega.{arith}
use lib.ListN.{length}
use Rattle.bits.specs.Digits.{Below}
use Rattle.bits.specs.Bits.{ones}
use Rattle.remainder.specs.Polynomial.{◌⊕◌, zeros}
use Rattle.remainder.proofs.Sum.{cons}

pub ones-zeros : (n : ℕ) → ones (zeros n) ≡ 0
unfolding ones
ones-zeros zero = refl
ones-zeros (suc n) = omega (arith, ones-zeros n)

pub ones-⊕ : (p q : List ℕ) → ones (p ⊕ q) ≤ ones p + ones q
unfolding ◌⊕◌ ones
ones-⊕ [] q = omega arith
ones-⊕ (x ∷ p) [] = omega arith
ones-⊕ (x ∷ p) (y ∷ q) = bound x y (ones p) (ones q) (ones (p ⊕ q)) (ones-⊕ p q)
  where
    bound : (x y a b c : ℕ) → c ≤ a + b → (x + y) % 2 % 2 + c ≤ x % 2 + a + (y % 2 + b)
    bound x y a b c h = omega arith

-- what is added may be changed by an even number
pub even-add : (k a b : ℕ) → a % 2 ≡ b % 2 → (k + a) % 2 ≡ (k + b) % 2
even-add k a b h = sym (add-mod-mod k a 2) ∙ ap (λ (m : ℕ). (k + m) % 2) h ∙ add-mod-mod k b 2

pub even-⊕ : (p q : List ℕ) → length p ≡ length q → ones (p ⊕ q) % 2 ≡ (ones p + ones q) % 2
unfolding ◌⊕◌ ones
even-⊕ [] [] h = refl
even-⊕ [] (y ∷ q) h = absurd (suc-ne-zero _ (sym h))
even-⊕ (x ∷ p) [] h = absurd (suc-ne-zero _ h)
even-⊕ (x ∷ p) (y ∷ q) h = parity x y (ones p) (ones q) (ones (p ⊕ q)) (even-⊕ p q (suc_inj h))
  where
    parity : (x y a b c : ℕ) → c % 2 ≡ (a + b) % 2 → ((x + y) % 2 % 2 + c) % 2 ≡ (x % 2 + a + (y % 2 + b)) % 2
    parity x y a b c h = even-add ((x + y) % 2 % 2) c (a + b) h ∙ odd x y (a + b) ∙ ap (λ (m : ℕ). m % 2) (omega arith)
      where
        odd : (x y s : ℕ) → ((x + y) % 2 % 2 + s) % 2 ≡ (x % 2 + y % 2 + s) % 2
        odd x y s = ap (λ (m : ℕ). (m + s) % 2) (mod-mod (x + y) 2 ∙ add-mod x y 2) ∙ mod-add-mod (x % 2 + y % 2) 2 s

pub none-zeros : (p : List ℕ) → Below 2 p → ones p ≡ 0 → p ≡ zeros (length p)
unfolding ones Below
none-zeros [] b h = refl
none-zeros (x ∷ p) b h = let l : x < 2 = b.0 in cons (omega arith) (none-zeros p b.1 (omega arith))
