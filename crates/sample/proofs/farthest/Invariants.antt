-- `sample::farthest` meets its contract: the samples so far fit a factor exactly where the farthest of their reaches does. Assumes nothing.
use mathlib.Core.Path.{◌≡◌}
use Prim.Native.Nat.{ℕ, ◌-◌, ◌^◌, ◌≤◌}
use lib.Dec.{ltb}
use lib.ListN.{length, take}
use Rattle.sample.specs.Factor.{all_fit}
use Rattle.sample.proofs.farthest.Given as goal

abbrev pub invariant-loop-sample : goal.invariant-loop-sample
invariant-loop-sample l = (l.sample-index ≤ length l.samples) × ((s : ℕ) → all_fit s (take l.sample-index l.samples) ≡ ltb l.most (2 ^ (15 - s)))
