-- The loop of `sound::fill_by`: both slices are filled below place 4 n, and the marks of n blocks are kept. Assumes nothing.
use mathlib.Core.Path.{◌≡◌}
use Prim.Native.Nat.{◌*◌, ◌≤◌}
use lib.ListN.{length, take}
use Rattle.bits.specs.Table.{tabulate}
use Rattle.bits.proofs.Table.{filled}
use Rattle.tape.specs.Tape.{block_mark, in_eights}
use Rattle.sound.specs.Sound.{sample_at, mark_at, in_rows}
use Rattle.sound.proofs.fill_by.Given as goal

abbrev pub invariant-loop-n : goal.invariant-loop-n
invariant-loop-n l =
    (l.n ≤ 512)
    × (l.samples ≡ filled (in_rows (sample_at l.radius l.sf l.factors)) (4 * l.n) l.initial.samples)
    × (l.marks ≡ filled (in_rows (mark_at l.radius l.sf l.factors)) (4 * l.n) l.initial.marks)
    × (length l.out ≡ 512)
    × (take l.n l.out ≡ tabulate l.n (in_eights (block_mark l.radius l.sf)))
