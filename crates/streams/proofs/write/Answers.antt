use Rattle.streams.specs.Error.{none}
use Rattle.streams.proofs.write.Goals as goal

pub returns-clause-told : goal.returns-clause-told
returns-clause-told g c = none
