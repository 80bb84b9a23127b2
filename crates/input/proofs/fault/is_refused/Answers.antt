-- `input::fault::is_refused` meets its contract. Assumes nothing.
use mathlib.Core.Path.{ap, ◌∙◌}
use Rattle.input.specs.Fault.{is_refused}
use Rattle.input.proofs.Parts.{err-refused}
use Rattle.input.proofs.fault.is_refused.Goals as goal

pub returns : goal.returns
returns c = c.is_err.ensures.value ∙ err-refused _ ∙ ap is_refused c.read_header.ensures
