-- `beside::service_at` meets its contract. Assumes nothing.
use mathlib.Core.Path.{◌∙◌}
use Rattle.beside.proofs.Carried.{service-there}
use Rattle.beside.proofs.service_at.Goals as goal

pub returns : goal.returns
returns c = c.bit_of.ensures ∙ service-there c.args.sf.now c.args.f
