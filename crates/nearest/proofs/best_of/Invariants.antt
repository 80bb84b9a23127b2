-- `nearest::best_of` meets its contract. The loop's invariant: the best of the pairs passed. Assumes nothing.
use Prim.Native.Nat.{◌≤◌}
use Rattle.bits.specs.Digits.{digits}
use Rattle.nearest.specs.Search.{Holds}
use Rattle.nearest.proofs.best_of.Given as goal

abbrev pub invariant-loop-k : goal.invariant-loop-k
invariant-loop-k l = (l.k ≤ 64) × Holds (digits 2 42 l.number) l.k l.best
