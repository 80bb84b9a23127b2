-- `name_lines::unchanged` meets its contract. Assumes nothing.
use mathlib.Core.Path.{refl}
use Rattle.name_lines.specs.Names.{same_as}
use Rattle.name_lines.proofs.unchanged.Goals as goal

pub returns-in-Some : goal.returns-in-Some
unfolding same_as
returns-in-Some c = rw c.in-Some.is c.same_label.ensures

pub returns-in-None : goal.returns-in-None
unfolding same_as
returns-in-None c = rw c.in-None.is refl
