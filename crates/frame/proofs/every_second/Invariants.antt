-- `frame::every_second` meets its contract: four bits more in each turn. Assumes nothing.
use mathlib.Core.Path.{◌≡◌}
use Prim.Native.Nat.{◌+◌, ◌*◌, ◌≤◌}
use lib.ListN.{length, take}
use Rattle.bits.specs.Table.{tabulate}
use Rattle.bits.specs.Bits.{bit_at}
use Rattle.frame.proofs.every_second.Given as goal

abbrev pub invariant-loop-g : goal.invariant-loop-g
invariant-loop-g l =
    (l.g ≤ 19) × (length l.out ≡ 77) × (take (4 * l.g) l.out ≡ tabulate (4 * l.g) (λ j. bit_at l.bytes (l.start + 2 * j)))
