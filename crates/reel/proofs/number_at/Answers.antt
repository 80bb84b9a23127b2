-- `reel::number_at` meets its contract: a number by its four bytes. Assumes nothing.
use mathlib.Core.Path.{◌∙◌}
use Rattle.reel.proofs.Numbers.{number_at-is}
use Rattle.reel.proofs.number_at.Goals as goal

pub returns : goal.returns
returns c = c.from_be_bytes.ensures ∙ number_at-is _ _
