-- `tape::blocks::kind_of` meets its contract. Assumes nothing.
use borrow.Author.Tests.{eq-eqb, ne_eqb}
use Rattle.block.specs.Mark.{counted_as}
use Rattle.tape.proofs.blocks.kind_of.Goals as goal

pub returns-then-mark-eq4 : goal.returns-then-mark-eq4
unfolding counted_as
returns-then-mark-eq4 c = rw (eq-eqb _ _ c.if-mark-eq4.true)

pub returns-else-mark-eq4 : goal.returns-else-mark-eq4
unfolding counted_as
returns-else-mark-eq4 c = rw (ne_eqb _ _ c.if-mark-eq4.false)
