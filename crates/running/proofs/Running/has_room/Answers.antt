-- `running::Running::has_room` meets its contract. Assumes nothing.
use Rattle.running.specs.Running.{has_room}
use Rattle.running.proofs.Running.has_room.Goals as goal

pub returns : goal.returns
unfolding has_room
returns c = rw c.given.ensures
