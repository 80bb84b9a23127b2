-- `frame::service_of` meets its contract. Assumes nothing.
use mathlib.Core.Path.{ap, ◌∙◌}
use Rattle.frame.specs.Frame.{service_in}
use Rattle.frame.specs.Read.{service_read}
use Rattle.frame.proofs.service_of.Goals as goal

pub returns : goal.returns
unfolding service_read
returns c = c.carried.ensures ∙ ap (service_in c.args.letter) c.bit_of.ensures
