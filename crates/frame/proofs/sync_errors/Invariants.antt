-- `frame::sync_errors` meets its contract: the wrong bits counted so far. Assumes nothing.
use mathlib.Core.Path.{◌≡◌}
use Prim.Native.Nat.{◌+◌, ◌%◌, ◌≤◌}
use lib.ListN.{get_or}
use Rattle.bits.specs.Table.{tabulate}
use Rattle.bits.specs.Bits.{bit_at, ones}
use Rattle.frame.proofs.sync_errors.Given as goal

abbrev pub invariant-loop-k : goal.invariant-loop-k
invariant-loop-k l = (l.k ≤ 11) × (l.wrong ≤ l.k) × (l.wrong ≡ ones (tabulate l.k (λ k. (get_or l.sync k 0 + bit_at l.bytes k) % 2)))
