-- The loop of `sound::four`: both slices are filled below place j. Assumes nothing.
use mathlib.Core.Path.{◌≡◌}
use Prim.Native.Nat.{◌+◌, ◌*◌, ◌≤◌}
use Rattle.bits.proofs.Table.{filled}
use Rattle.sound.specs.Sound.{sample_at, mark_at, in_rows}
use Rattle.sound.proofs.four.Given as goal

abbrev pub invariant-loop-j : goal.invariant-loop-j
invariant-loop-j l =
    (l.j ≤ 4) × (l.samples ≡ filled (λ j. in_rows (sample_at l.radius l.sf l.factors) (4 * l.n + j)) l.j l.initial.samples) × (l.marks ≡ filled (λ j. in_rows (mark_at l.radius l.sf l.factors) (4 * l.n + j)) l.j l.initial.marks)
