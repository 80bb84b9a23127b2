-- `running::Running::none` meets its contract. Assumes nothing.
use mathlib.Core.Path.{refl}
use Rattle.running.specs.Running.{no_running}
use Rattle.running.proofs.Running.none.Goals as goal

pub returns : goal.returns
unfolding no_running
returns c = refl
