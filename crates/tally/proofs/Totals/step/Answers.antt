-- `tally::Totals::step` meets its contract. Assumes nothing.
use mathlib.Core.Path.{ap, ◌∙◌}
use Rattle.tally.specs.Totals.{added_to, step_of}
use Rattle.tally.proofs.Totals.step.Goals as goal

pub returns : goal.returns
unfolding step_of
returns c = c.add.ensures ∙ ap (added_to c.args.self) c.counts.ensures
