-- The remainder of a word is the sum of the columns at its ones.
--     length-column, below-column   a column has as many coefficients as the degree, each 0 or 1
--     length-columns                a column for each place
--     Sized n cs                    each of cs has n coefficients
--     sized-columns                 so do the columns of a generator
--     remainder-one                 a one in front adds its column
--     sum_at cs e acc                acc and those of the columns cs at which e has a one
--     length-sum_at, below-sum_at     it is as long as acc
--     sum_at-remainder               with all the columns it is the remainder
--     sum_at-none                    no ones: nothing is added
-- Assumes nothing.
use mathlib.Core.Path.{◌≡◌, refl, sym, ap, ◌∙◌}
use mathlib.Core.List.{List, [], ◌∷◌}
use Prim.Native.Nat.{ℕ, zero, suc, ◌≤◌}
use native.Mathlib.Omega.{arith}
use lib.ListN.{length}
use Rattle.bits.specs.Digits.{Below}
use Rattle.bits.specs.Bits.{ones}
use Rattle.remainder.specs.Polynomial.{◌⊕◌, zeros}
use Rattle.remainder.specs.Remainder.{remainder, divide}
use Rattle.remainder.specs.Columns.{column, columns}
use Rattle.remainder.proofs.Sum.{length-⊕, below-⊕, ⊕-assoc, ⊕-zeros, zeros-⊕, length-zeros}
use Rattle.remainder.proofs.Division.{length-remainder, below-remainder, remainder-⊕, remainder-zero}

unfoldable pub Sized : ℕ → List (List ℕ) → Type 0
Sized n [] = Unit {0}
Sized n (c ∷ cs) = (length c ≡ n) × Sized n cs

unfoldable pub sum_at : List (List ℕ) → List ℕ → List ℕ → List ℕ
sum_at [] e acc = acc
sum_at (c ∷ cs) [] acc = sum_at cs [] acc
sum_at (c ∷ cs) (zero ∷ e) acc = sum_at cs e acc
sum_at (c ∷ cs) (suc x ∷ e) acc = sum_at cs e (acc ⊕ c)

pub length-sum_at : (n : ℕ) (cs : List (List ℕ)) (e acc : List ℕ) → Sized n cs → length acc ≡ n → length (sum_at cs e acc) ≡ n
unfolding Sized sum_at
length-sum_at n [] e acc s h = h
length-sum_at n (c ∷ cs) [] acc s h = length-sum_at n cs [] acc s.1 h
length-sum_at n (c ∷ cs) (zero ∷ e) acc s h = length-sum_at n cs e acc s.1 h
length-sum_at n (c ∷ cs) (suc x ∷ e) acc s h = length-sum_at n cs e (acc ⊕ c) s.1 (length-⊕ acc c (h ∙ sym s.0) ∙ h)

pub below-sum_at : (cs : List (List ℕ)) (e acc : List ℕ) → Below 2 acc → Below 2 (sum_at cs e acc)
unfolding sum_at
below-sum_at [] e acc b = b
below-sum_at (c ∷ cs) [] acc b = below-sum_at cs [] acc b
below-sum_at (c ∷ cs) (zero ∷ e) acc b = below-sum_at cs e acc b
below-sum_at (c ∷ cs) (suc x ∷ e) acc b = below-sum_at cs e (acc ⊕ c) (below-⊕ acc c)

pub sum_at-none : (cs : List (List ℕ)) (e acc : List ℕ) → Below 2 e → ones e ≤ 0 → sum_at cs e acc ≡ acc
unfolding sum_at ones Below
sum_at-none [] e acc b h = refl
sum_at-none (c ∷ cs) [] acc b h = sum_at-none cs [] acc b h
sum_at-none (c ∷ cs) (zero ∷ e) acc b h = sum_at-none cs e acc b.1 (omega arith)
sum_at-none (c ∷ cs) (suc zero ∷ e) acc b h = absurd (omega arith)
sum_at-none (c ∷ cs) (suc (suc x) ∷ e) acc b h = absurd (omega (arith, b.0))

module _ (g : List ℕ) where
  pub length-column : (p : ℕ) → length (column g p) ≡ length g
  unfolding column
  length-column p = length-remainder g (1 ∷ zeros p)

  pub below-column : (p : ℕ) → Below 2 (column g p)
  unfolding column
  below-column p = below-remainder g (1 ∷ zeros p)

  pub length-columns : (n : ℕ) → length (columns g n) ≡ n
  unfolding columns
  length-columns zero = refl
  length-columns (suc n) = ap suc (length-columns n)

  pub sized-columns : (n : ℕ) → Sized (length g) (columns g n)
  unfolding columns Sized
  sized-columns zero = tt
  sized-columns (suc n) = (length-column n, sized-columns n)

  pub remainder-one : (e : List ℕ) → Below 2 e → remainder g (1 ∷ e) ≡ column g (length e) ⊕ remainder g e
  unfolding column ◌⊕◌
  remainder-one e b =
      ap (λ (l : List ℕ). remainder g (1 ∷ l)) (sym (zeros-⊕ e (length e) b refl))
      ∙ remainder-⊕ g (1 ∷ zeros (length e)) (0 ∷ e) (ap suc (length-zeros (length e)))
      ∙ ap (λ (l : List ℕ). column g (length e) ⊕ l) (remainder-zero g e)

  pub sum_at-remainder : (e acc : List ℕ) → Below 2 e → Below 2 acc → length acc ≡ length g → sum_at (columns g (length e)) e acc ≡ acc ⊕ remainder g e
  unfolding sum_at columns Below remainder divide
  sum_at-remainder [] acc b ba h = sym (⊕-zeros acc (length g) ba h)
  sum_at-remainder (zero ∷ e) acc b ba h = sum_at-remainder e acc b.1 ba h ∙ ap (λ (l : List ℕ). acc ⊕ l) (sym (remainder-zero g e))
  sum_at-remainder (suc zero ∷ e) acc b ba h =
      sum_at-remainder e (acc ⊕ c) b.1 (below-⊕ acc c) (length-⊕ acc c (h ∙ sym (length-column (length e))) ∙ h)
      ∙ ⊕-assoc acc c (remainder g e) ∙ ap (λ (l : List ℕ). acc ⊕ l) (sym (remainder-one e b.1))
    where
      c : List ℕ
      c = column g (length e)
  sum_at-remainder (suc (suc x) ∷ e) acc b ba h = absurd (omega (arith, b.0))
