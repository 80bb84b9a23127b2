use Rattle.std.proofs.Common.{◌≤◌, ◌-◌, length}
use Rattle.streams.proofs.fill.Given as goal

abbrev pub invariant-loop-came : goal.invariant-loop-came
invariant-loop-came g l = l.came ≤ length l.buf

abbrev pub decreases-loop-came : goal.decreases-loop-came
decreases-loop-came g l = length l.buf - l.came
