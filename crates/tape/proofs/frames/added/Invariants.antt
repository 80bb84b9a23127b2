-- `tape::frames::added` meets its contract. Assumes nothing.
use mathlib.Core.Path.{◌≡◌}
use Prim.Native.Nat.{ℕ, ◌*◌, ◌≤◌, ◌<◌}
use Rattle.frame.specs.Read.{most_wrong}
use Rattle.tape.specs.Tape.{wrong_at, sum_to}
use Rattle.tape.proofs.frames.added.Given as goal

abbrev pub invariant-loop-f : goal.invariant-loop-f
invariant-loop-f l =
    (l.f ≤ 128) × ((k : ℕ) → k < l.f → wrong_at l.sf k ≤ most_wrong) × (l.wrong ≡ sum_to l.f (wrong_at l.sf)) × (l.wrong ≤ 2 * l.f)
