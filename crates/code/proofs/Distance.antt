-- Laws of distances.
--     distance-differing    between words of bits it is the number of places in which they differ
--     distance-comm, distance_self, distance-triangle    the number of differing places is one of distances
--     distance-append       of words in two parts it is the sum over the parts
--     distance-changed      a word and the word with the places of a mask turned differ in the mask's ones
-- Assumes nothing.
use mathlib.Core.Path.{◌≡◌, refl, sym, ap, ap₂, ◌∙◌, subst}
use mathlib.Core.List.{List, [], ◌∷◌, ◌++◌}
use Prim.Native.Nat.{ℕ, ◌+◌, ◌≤◌}
use native.Mathlib.Omega.{arith}
use borrow.Author.Tests.{eqb-true, eqb-false}
use lib.Dec.{eqb}
use lib.ListN.{length}
use Rattle.bits.specs.Digits.{Below}
use Rattle.bits.proofs.Tests.{either_way}
use Rattle.bits.proofs.Bits.{ones-append}
use Rattle.bits.specs.Bits.{ones}
use Rattle.remainder.specs.Polynomial.{◌⊕◌, zeros}
use Rattle.remainder.proofs.Sum.{cons, ⊕-comm, ⊕-assoc, ⊕-append, ⊕-self}
use Rattle.remainder.proofs.Ones.{ones-zeros, ones-⊕}
use Rattle.code.specs.Words.{distance, differing}

pub distance-differing : (v w : List ℕ) → Below 2 v → Below 2 w → distance v w ≡ differing v w
unfolding distance differing ones ◌⊕◌ Below
distance-differing [] w bv bw = refl
distance-differing (x ∷ v) [] bv bw = refl
distance-differing (x ∷ v) (y ∷ w) bv bw =
    ap₂ ◌+◌ (either_way (eqb x y) (λ e. let same = eqb-true x y e in rw e (omega arith)) (λ e. let other = eqb-false x y e in rw e (omega arith)))
    (distance-differing v w bv.1 bw.1)

pub distance-comm : (v w : List ℕ) → distance v w ≡ distance w v
unfolding distance
distance-comm v w = ap ones (⊕-comm v w)

pub distance_self : (w : List ℕ) → distance w w ≡ 0
unfolding distance
distance_self w = ap ones (⊕-self w) ∙ ones-zeros (length w)

pub distance-append : (a b c d : List ℕ) → length a ≡ length b → distance (a ++ c) (b ++ d) ≡ distance a b + distance c d
unfolding distance
distance-append a b c d h = ap ones (⊕-append a b c d h) ∙ ones-append (a ⊕ b) (c ⊕ d)

-- ---- v ⊕ (v ⊕ w) is w, with each entry as a bit
twice : (v w : List ℕ) → length v ≡ length w → v ⊕ (v ⊕ w) ≡ zeros (length w) ⊕ w
twice v w h = sym (⊕-assoc v v w) ∙ ap (λ (l : List ℕ). l ⊕ w) (⊕-self v ∙ ap zeros h)

ones-bits : (w : List ℕ) → ones (zeros (length w) ⊕ w) ≡ ones w
unfolding ◌⊕◌ ones
ones-bits [] = refl
ones-bits (x ∷ w) = ap₂ ◌+◌ (omega arith) (ones-bits w)

⊕-bits : (v w : List ℕ) → v ⊕ (zeros (length w) ⊕ w) ≡ v ⊕ w
unfolding ◌⊕◌
⊕-bits [] w = refl
⊕-bits (x ∷ v) [] = refl
⊕-bits (x ∷ v) (y ∷ w) = cons (omega arith) (⊕-bits v w)

pub distance-changed : (w mask : List ℕ) → length w ≡ length mask → distance w (w ⊕ mask) ≡ ones mask
unfolding distance
distance-changed w mask h = ap ones (twice w mask h) ∙ ones-bits mask

pub distance-triangle : (u v w : List ℕ) → length v ≡ length w → distance u w ≤ distance u v + distance v w
unfolding distance
distance-triangle u v w h =
    subst (λ (l : List ℕ). ones l ≤ ones (u ⊕ v) + ones (v ⊕ w))
    (⊕-assoc u v (v ⊕ w) ∙ ap (λ (l : List ℕ). u ⊕ l) (twice v w h) ∙ ⊕-bits u w)
    (ones-⊕ (u ⊕ v) (v ⊕ w))
