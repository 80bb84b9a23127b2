-- `frame_writer::fill` meets its contract: the first i bytes are made. Assumes nothing.
use mathlib.Core.Path.{◌≡◌}
use Prim.Native.Nat.{◌*◌, ◌≤◌}
use lib.ListN.{length, take}
use Rattle.bits.specs.Table.{tabulate}
use Rattle.bits.specs.Bits.{byte_at}
use Rattle.frame_writer.proofs.fill.Given as goal

abbrev pub invariant-loop-i : goal.invariant-loop-i
invariant-loop-i l = (l.i ≤ 40) × (length l.out ≡ 40) × (take l.i l.out ≡ tabulate l.i (λ i. byte_at l.bits (8 * i)))
