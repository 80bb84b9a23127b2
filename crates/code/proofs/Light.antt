-- No multiple of a generator is light: with at most i + j + 1 ones, where the test of Table passes at i and j, it is zero.
--     first k e, others k e     the first k ones of e; the others
--     light                     the law, for words of at most n + 1 bits
-- Assumes nothing.
use mathlib.Core.Path.{◌≡◌, refl, sym, ap, ◌∙◌}
use mathlib.Core.List.{List, [], ◌∷◌, ◌++◌}
use Prim.Native.Nat.{ℕ, zero, suc, ◌+◌, ◌≤◌, ◌<◌}
use native.Mathlib.Omega.{arith}
use lib.Dec.{T}
use lib.ListN.{length, length-append}
use Rattle.bits.specs.Bits.{ones}
use Rattle.bits.specs.Digits.{Below}
use Rattle.bits.proofs.Bits.{ones-append}
use Rattle.bits.proofs.Digits.{below-append}
use Rattle.remainder.specs.Polynomial.{◌⊕◌, zeros}
use Rattle.remainder.specs.Remainder.{remainder}
use Rattle.remainder.proofs.Sum.{cons, ⊕-cancel, length-zeros, below-zeros}
use Rattle.remainder.proofs.Division.{length-remainder, below-remainder, remainder-⊕, remainder-zero, remainder-more}
use Rattle.remainder.proofs.Ones.{ones-zeros}
use Rattle.code.proofs.Table.{tests, apart}

first : ℕ → List ℕ → List ℕ
first k [] = []
first k (zero ∷ e) = 0 ∷ first k e
first zero (suc x ∷ e) = 0 ∷ first zero e
first (suc k) (suc x ∷ e) = 1 ∷ first k e

others : ℕ → List ℕ → List ℕ
others k [] = []
others k (zero ∷ e) = 0 ∷ others k e
others zero (suc x ∷ e) = 1 ∷ others zero e
others (suc k) (suc x ∷ e) = 0 ∷ others k e

length-first : (k : ℕ) (e : List ℕ) → length (first k e) ≡ length e
unfolding first
length-first k [] = refl
length-first k (zero ∷ e) = ap suc (length-first k e)
length-first zero (suc x ∷ e) = ap suc (length-first zero e)
length-first (suc k) (suc x ∷ e) = ap suc (length-first k e)

length-others : (k : ℕ) (e : List ℕ) → length (others k e) ≡ length e
unfolding others
length-others k [] = refl
length-others k (zero ∷ e) = ap suc (length-others k e)
length-others zero (suc x ∷ e) = ap suc (length-others zero e)
length-others (suc k) (suc x ∷ e) = ap suc (length-others k e)

below-first : (k : ℕ) (e : List ℕ) → Below 2 (first k e)
unfolding first Below
below-first k [] = tt
below-first k (zero ∷ e) = (omega arith, below-first k e)
below-first zero (suc x ∷ e) = (omega arith, below-first zero e)
below-first (suc k) (suc x ∷ e) = (omega arith, below-first k e)

below-others : (k : ℕ) (e : List ℕ) → Below 2 (others k e)
unfolding others Below
below-others k [] = tt
below-others k (zero ∷ e) = (omega arith, below-others k e)
below-others zero (suc x ∷ e) = (omega arith, below-others zero e)
below-others (suc k) (suc x ∷ e) = (omega arith, below-others k e)

ones-first : (k : ℕ) (e : List ℕ) → ones (first k e) ≤ k
unfolding first ones
ones-first k [] = omega arith
ones-first k (zero ∷ e) = omega (arith, ones-first k e)
ones-first zero (suc x ∷ e) = omega (arith, ones-first zero e)
ones-first (suc k) (suc x ∷ e) = omega (arith, ones-first k e)

ones-others : (k m : ℕ) (e : List ℕ) → Below 2 e → ones e ≤ k + m → ones (others k e) ≤ m
unfolding others ones Below
ones-others k m [] b h = omega arith
ones-others k m (zero ∷ e) b h = omega (arith, ones-others k m e b.1 (omega arith))
ones-others zero zero (suc zero ∷ e) b h = omega arith
ones-others zero (suc m) (suc zero ∷ e) b h = omega (arith, ones-others zero m e b.1 (omega arith))
ones-others zero m (suc (suc x) ∷ e) b h = absurd (omega (arith, b.0))
ones-others (suc k) m (suc zero ∷ e) b h = omega (arith, ones-others k m e b.1 (omega arith))
ones-others (suc k) m (suc (suc x) ∷ e) b h = absurd (omega (arith, b.0))

first-others : (k : ℕ) (e : List ℕ) → Below 2 e → first k e ⊕ others k e ≡ e
unfolding first others ◌⊕◌ Below
first-others k [] b = refl
first-others k (zero ∷ e) b = cons refl (first-others k e b.1)
first-others zero (suc x ∷ e) b = let l : suc x < 2 = b.0 in cons (omega arith) (first-others zero e b.1)
first-others (suc k) (suc x ∷ e) b = let l : suc x < 2 = b.0 in cons (omega arith) (first-others k e b.1)

module _ (g : List ℕ) (n i j : ℕ) (passed : T (tests g n i j)) where
  topped : (e : List ℕ) → length e ≡ n → Below 2 e → ones e ≤ i + j → remainder g (1 ∷ e) ≡ zeros (length g) → ⊥
  unfolding ◌⊕◌
  topped e l be w h =
      apart g n i j passed a b (length-first i e ∙ l) (length-others i e ∙ l) (below-first i e) (below-others i e) (ones-first i e) (ones-others i j e be w)
      (⊕-cancel (remainder g (1 ∷ a)) (remainder g b) (length g) (below-remainder g (1 ∷ a)) (below-remainder g b)
      (length-remainder g (1 ∷ a)) (length-remainder g b)
      (ap (λ (x : List ℕ). remainder g (1 ∷ a) ⊕ x) (sym (remainder-zero g b))
      ∙ sym (remainder-⊕ g (1 ∷ a) (0 ∷ b) (ap suc (length-first i e ∙ sym (length-others i e))))
      ∙ ap (λ (x : List ℕ). remainder g (1 ∷ x)) (first-others i e be) ∙ h))
    where
      a : List ℕ
      a = first i e

      b : List ℕ
      b = others i e

  -- a zero in front can as well stand behind, so the first one may be taken for the top place
  pub light : (e : List ℕ) (m : ℕ) → length e + m ≡ suc n → Below 2 e → ones e ≤ suc (i + j) → remainder g e ≡ zeros (length g) → e ≡ zeros (length e)
  unfolding ones Below
  light [] m l b w h = refl
  light (zero ∷ e) m l b w h = cons refl (light e (suc m) (omega arith) b.1 (omega arith) (sym (remainder-zero g e) ∙ h))
  light (suc zero ∷ e) m l b w h =
      absurd
      (topped (e ++ zeros m) (length-append e (zeros m) ∙ ap (λ (k : ℕ). length e + k) (length-zeros m) ∙ omega arith)
      (below-append 2 e (zeros m) b.1 (below-zeros m)) (omega (arith, ones-append e (zeros m), ones-zeros m))
      (remainder-more g m (1 ∷ e) h))
  light (suc (suc x) ∷ e) m l b w h = absurd (omega (arith, b.0))
