-- `running::adds_up` meets its contract. Assumes nothing.
use Rattle.running.specs.Running.{adds_up}
use Rattle.running.proofs.adds_up.Goals as goal

pub returns : goal.returns
unfolding adds_up
returns c = rw (c.from.ensures, c.from-2.ensures, c.from-3.ensures, c.from-4.ensures)
