-- `tally::sum` meets its contract: so many of the counts are added. Assumes nothing.
use Prim.Native.Nat.{◌*◌, ◌≤◌}
use mathlib.Core.Path.{◌≡◌}
use lib.ListN.{take}
use Rattle.tally.specs.Totals.{sum_of}
use Rattle.tally.proofs.sum.Given as goal

abbrev pub invariant-loop-n : goal.invariant-loop-n
invariant-loop-n l = (l.n-index ≤ 8) × (l.sum ≤ 255 * l.n-index) × (l.sum ≡ sum_of (take l.n-index l.fn.counts))
