-- Sums of lists, and totals.
--     sum-snoc      the sum with one element behind
--     sum_more      the sum of one element more, as a loop adds it
--     sum-all       the sum of all
--     grown-none    a total to which nothing is added
-- Assumes nothing.
use mathlib.Core.Path.{◌≡◌, ap, ◌∙◌}
use mathlib.Core.List.{List, [], ◌∷◌, ◌++◌}
use Prim.Native.Nat.{ℕ, ◌+◌, ◌≤◌, ◌<◌}
use native.Mathlib.Nat.{add-zero, min-eq_left}
use native.Mathlib.Numerals.{add-one}
use native.Mathlib.Omega.{arith}
use lib.ListN.{length, get_or, take}
use mir.Syntax.{w64}
use mir.Val.{Fits}
use lib.Seq.{take-suc, take_all}
use Rattle.tally.specs.Totals.{grown, sum_of}

pub sum-snoc : (l : List ℕ) (n : ℕ) → sum_of (l ++ (n ∷ [])) ≡ sum_of l + n
unfolding sum_of
sum-snoc [] n = omega arith
sum-snoc (x ∷ l) n = let h = sum-snoc l n in omega (arith, h)

pub sum_more : (l : List ℕ) (i : ℕ) → i < length l → sum_of (take (i + 1) l) ≡ sum_of (take i l) + get_or l i 0
sum_more l i h = ap sum_of (ap (λ (n : ℕ). take n l) (add-one i) ∙ take-suc l i 0 h) ∙ sum-snoc (take i l) (get_or l i 0)

pub sum-all : (l : List ℕ) (i : ℕ) → length l ≤ i → sum_of (take i l) ≡ sum_of l
sum-all l i h = ap sum_of (take_all i l h)

pub grown-none : (x : ℕ) → Fits w64 x → grown x 0 ≡ x
unfolding grown
grown-none x h = min-eq_left (omega (arith, h)) ∙ add-zero x
