-- `nearest::number_from` meets its contract: the sum is the number that the bits so far make. Assumes nothing.
use mathlib.Core.Path.{◌≡◌}
use Prim.Native.Nat.{◌≤◌}
use Rattle.bits.specs.Digits.{value}
use Rattle.nearest.specs.Search.{bits_from}
use Rattle.nearest.proofs.number_from.Given as goal

abbrev pub invariant-loop-j : goal.invariant-loop-j
invariant-loop-j l = (l.j ≤ l.n) × (l.sum ≡ value 2 (bits_from l.bits l.at l.j))
