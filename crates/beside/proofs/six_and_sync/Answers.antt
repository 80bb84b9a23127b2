-- `beside::six_and_sync` meets its contract. Assumes nothing.
use borrow.Author.Tests.{eq-eqb, ne_eqb}
use Rattle.beside.specs.Beside.{six_and_sync, six_answer}
use Rattle.beside.proofs.six_and_sync.Goals as goal

pub returns-then-sf-ne5120 : goal.returns-then-sf-ne5120
unfolding six_answer
returns-then-sf-ne5120 c = rw (ne_eqb _ _ c.if-sf-ne5120.true)

pub returns : goal.returns
unfolding six_answer six_and_sync
returns c =
    rw (eq-eqb _ _ c.if-sf-ne5120.false, c.six_of.ensures, c.sync_of.ensures, c.service_bits-bits.ensures)
