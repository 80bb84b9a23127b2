-- `running::Running::in_range` meets its contract. Assumes nothing.
use mathlib.Core.Path.{sym, ◌∙◌}
use Rattle.running.specs.Running.{running_in_range}
use Rattle.running.proofs.Running.in_range.Goals as goal

pub returns-then-sums_fit : goal.returns-then-sums_fit
unfolding running_in_range
returns-then-sums_fit c = rw (sym c.sums_fit.ensures ∙ c.if-sums_fit.true, c.given.ensures)

pub returns-else-sums_fit : goal.returns-else-sums_fit
unfolding running_in_range
returns-else-sums_fit c = rw (sym c.sums_fit.ensures ∙ c.if-sums_fit.false) c.if-sums_fit.false
