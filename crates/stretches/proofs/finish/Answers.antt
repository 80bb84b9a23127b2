-- `stretches::finish` meets its contract. Assumes nothing.
use Rattle.text.proofs.Pens.{puts_none}
use Rattle.label.specs.Lines.{lines}
use Rattle.stretches.proofs.finish.Goals as goal

pub returns-in-Some : goal.returns-in-Some
unfolding lines
returns-in-Some c = rw c.in-Some.is c.put_text.ensures

pub returns-in_default : goal.returns-in_default
unfolding lines
returns-in_default c = rw c.in_default.is (puts_none _)
