-- The search finds a mask exactly where there is one.
--     Fits k cs s m     m has a bit for each of cs and at most k ones, and s and the columns at its ones add up to zero
--     Good k cs s r     the search's answer r is right: a mask that fits, or none where none fits
--     seek-good         the search's answer is right
-- Assumes nothing.
use mathlib.Core.Path.{◌≡◌, refl, sym, ap, ◌∙◌}
use mathlib.Core.Bool.{Bool, true, false, cond}
use mathlib.Core.List.{List, [], ◌∷◌}
use mathlib.Core.Option.{Option, none, some}
use Prim.Native.Nat.{ℕ, zero, suc, ◌≤◌}
use native.Mathlib.Nat.{suc_inj, suc-ne-zero}
use native.Mathlib.Omega.{arith}
use lib.Dec.{eqb}
use lib.ListN.{length}
use borrow.Author.Tests.{eqb-true, eqb-false}
use Rattle.bits.specs.Bits.{ones}
use Rattle.bits.specs.Digits.{Below}
use Rattle.remainder.specs.Polynomial.{◌⊕◌, zeros}
use Rattle.remainder.proofs.Sum.{length-zeros, below-zeros}
use Rattle.remainder.proofs.Ones.{ones-zeros}
use Rattle.remainder.proofs.Columns.{sum_at, sum_at-none}
use Rattle.reading.specs.Search.{ahead, or_else, seek}

pub record Fits (k : ℕ) (cs : List (List ℕ)) (s m : List ℕ) : Type 0 where
  pub sized : length m ≡ length cs
  pub bits : Below 2 m
  pub few : ones m ≤ k
  pub none_left : ones (sum_at cs m s) ≡ 0

unfoldable pub Good : ℕ → List (List ℕ) → List ℕ → Option (List ℕ) → Type 0
Good k cs s none = (m : List ℕ) → Fits k cs s m → ⊥
Good k cs s (some m) = Fits k cs s m

-- ---- a place at which the mask has no one, and one at which it has
front-0 : (k : ℕ) (c : List ℕ) (cs : List (List ℕ)) (s m : List ℕ) → Fits k cs s m → Fits k (c ∷ cs) s (0 ∷ m)
unfolding Below ones sum_at
front-0 k c cs s m f = record { sized = ap suc f.sized; bits = (omega arith, f.bits); few = omega (arith, f.few); none_left = f.none_left }

front-1 : (k : ℕ) (c : List ℕ) (cs : List (List ℕ)) (s m : List ℕ) → Fits k cs (s ⊕ c) m → Fits (suc k) (c ∷ cs) s (1 ∷ m)
unfolding Below ones sum_at
front-1 k c cs s m f = record { sized = ap suc f.sized; bits = (omega arith, f.bits); few = omega (arith, f.few); none_left = f.none_left }

back-0 : (k : ℕ) (c : List ℕ) (cs : List (List ℕ)) (s m : List ℕ) → Fits k (c ∷ cs) s (0 ∷ m) → Fits k cs s m
unfolding Below ones sum_at
back-0 k c cs s m f = record { sized = suc_inj f.sized; bits = f.bits.1; few = omega (arith, f.few); none_left = f.none_left }

back-1 : (k : ℕ) (c : List ℕ) (cs : List (List ℕ)) (s m : List ℕ) → Fits (suc k) (c ∷ cs) s (1 ∷ m) → Fits k cs (s ⊕ c) m
unfolding Below ones sum_at
back-1 k c cs s m f = record { sized = suc_inj f.sized; bits = f.bits.1; few = omega (arith, f.few); none_left = f.none_left }

no-two : (k : ℕ) (cs : List (List ℕ)) (s m : List ℕ) (x : ℕ) → Fits k cs s (suc (suc x) ∷ m) → ⊥
unfolding Below
no-two k cs s m x f = omega (arith, f.bits.0)

-- ---- the ways of the search: no column may be taken, or none is left, so that the sum stands; and a column more
ended : (k : ℕ) (cs : List (List ℕ)) (s : List ℕ) → ((m : List ℕ) → Fits k cs s m → sum_at cs m s ≡ s) → (b : Bool) → eqb (ones s) 0 ≡ b
    → Good k cs s (cond b (some (zeros (length cs))) none)
unfolding Good
ended k cs s stands true e =
    record {
      sized = length-zeros (length cs);
      bits = below-zeros (length cs);
      few = omega (arith, ones-zeros (length cs));
      none_left = ap ones (sum_at-none cs (zeros (length cs)) s (below-zeros (length cs)) (omega (arith, ones-zeros (length cs)))) ∙ eqb-true (ones s) 0 e;
    }
ended k cs s stands false e = λ m f. eqb-false (ones s) 0 e (ap ones (sym (stands m f)) ∙ f.none_left)

module _ (c : List ℕ) (cs : List (List ℕ)) (s : List ℕ) where
  either : (k : ℕ) (a b : Option (List ℕ)) → Good (suc k) cs s a → Good k cs (s ⊕ c) b → Good (suc k) (c ∷ cs) s (or_else (ahead 0 a) (ahead 1 b))
  unfolding Good ahead or_else
  either k (some m) b ga gb = front-0 (suc k) c cs s m ga
  either k none (some m) ga gb = front-1 k c cs s m gb
  either k none none ga gb = none-fits
    where
      none-fits : (m : List ℕ) → Fits (suc k) (c ∷ cs) s m → ⊥
      none-fits [] f = suc-ne-zero _ (sym f.sized)
      none-fits (zero ∷ m) f = ga m (back-0 (suc k) c cs s m f)
      none-fits (suc zero ∷ m) f = gb m (back-1 k c cs s m f)
      none-fits (suc (suc x) ∷ m) f = no-two (suc k) (c ∷ cs) s m x f

pub seek-good : (k : ℕ) (cs : List (List ℕ)) (s : List ℕ) → Good k cs s (seek k cs s)
unfolding seek sum_at
seek-good zero cs s = ended zero cs s (λ m f. sum_at-none cs m s f.bits f.few) (eqb (ones s) 0) refl
seek-good (suc k) [] s = ended (suc k) [] s (λ m f. refl) (eqb (ones s) 0) refl
seek-good (suc k) (c ∷ cs) s = either c cs s k (seek (suc k) cs s) (seek k cs (s ⊕ c)) (seek-good (suc k) cs s) (seek-good k cs (s ⊕ c))
