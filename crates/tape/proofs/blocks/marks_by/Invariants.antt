-- `tape::blocks::marks_by` meets its contract. Assumes nothing.
use mathlib.Core.Path.{◌≡◌}
use Prim.Native.Nat.{◌≤◌}
use lib.ListN.{length, take}
use Rattle.bits.specs.Table.{tabulate}
use Rattle.reading.specs.Reading.{ordinary}
use Rattle.tape.specs.Tape.{block_mark, in_eights}
use Rattle.tape.proofs.blocks.marks_by.Given as goal

abbrev pub invariant-loop-n : goal.invariant-loop-n
invariant-loop-n l =
    (l.n ≤ 512) × (length l.out ≡ 512) × (take l.n l.out ≡ tabulate l.n (in_eights (block_mark ordinary l.sf)))
