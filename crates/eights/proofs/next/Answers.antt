-- `eights::next` meets its contract. Assumes nothing.
use Rattle.eights.specs.Eights.{step_by}
use Rattle.eights.proofs.next.Goals as goal

pub returns : goal.returns
unfolding step_by
returns c = rw c.from.ensures
