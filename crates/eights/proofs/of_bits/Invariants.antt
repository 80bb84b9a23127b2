-- `eights::of_bits` meets its contract. The loop's invariant: the first bits, and eight for each turn, are divided. Assumes nothing.
use mathlib.Core.Path.{◌≡◌}
use Prim.Native.Nat.{◌/◌, ◌≤◌}
use lib.ListN.{length}
use Rattle.eights.specs.Eights.{rows}
use Rattle.eights.proofs.of_bits.Given as goal

abbrev pub invariant-loop-i : goal.invariant-loop-i
invariant-loop-i l = (l.i ≤ length l.bits / 8) × (l.reg ≡ rows 11 l.table l.bits l.i)
