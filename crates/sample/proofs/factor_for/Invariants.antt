-- `sample::factor_for` meets its contract: the search goes down from 7, and passes only factors that the reach does not fit. Assumes nothing.
use mathlib.Core.Path.{◌≡◌}
use mathlib.Core.Bool.{Bool}
use Prim.Native.Nat.{ℕ, ◌-◌, ◌^◌}
use lib.Dec.{ltb}
use Rattle.sample.specs.Factor.{largest}
use Rattle.sample.proofs.factor_for.Given as goal

abbrev pub fitting : ℕ → ℕ → Bool
fitting most s = ltb most (2 ^ (15 - s))

abbrev pub invariant-loop-s : goal.invariant-loop-s
invariant-loop-s l = largest 7 (fitting l.most) ≡ largest (l.s - 1) (fitting l.most)
