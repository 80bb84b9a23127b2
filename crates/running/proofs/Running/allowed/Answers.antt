-- `running::Running::allowed` meets its contract. Assumes nothing.
use mathlib.Core.Path.{sym, ◌∙◌}
use Rattle.running.specs.Running.{allowed}
use Rattle.running.proofs.Running.allowed.Goals as goal

pub returns-then-not-in_range : goal.returns-then-not-in_range
unfolding allowed
returns-then-not-in_range c = rw (sym c.in_range.ensures ∙ c.if-not-in_range.true)

pub returns-then-not-has_room : goal.returns-then-not-has_room
unfolding allowed
returns-then-not-has_room c = rw (sym c.in_range.ensures ∙ c.if-not-in_range.false, sym c.has_room.ensures ∙ c.if-not-has_room.true)

pub returns : goal.returns
unfolding allowed
returns c = rw (sym c.in_range.ensures ∙ c.if-not-in_range.false, sym c.has_room.ensures ∙ c.if-not-has_room.false)
