-- `tally::Totals::add` meets its contract. Assumes nothing.
use borrow.Author.Tests.{ne_eqb}
use Rattle.bits.specs.Refused.{number_of}
use Rattle.bits.proofs.Refused.{number-same}
use Rattle.bits.specs.declared.refusal.Refusal.TheVariants.{Sync}
use Rattle.tally.specs.Totals.{added_to}
use Rattle.tally.proofs.Totals.add.Goals as goal

pub returns-in-Ok : goal.returns-in-Ok
unfolding added_to
returns-in-Ok c = rw (c.in-Ok.is, c.with_read.ensures)

pub returns-in-Sync : goal.returns-in-Sync
unfolding added_to
returns-in-Sync c = rw (c.in-Err.is, c.in-Sync.is) cc

pub returns-in_default : goal.returns-in_default
unfolding added_to
returns-in_default c = rw (c.in-Err.is, ne_eqb (number_of c.in-Err.why) 3 (λ e. c.in_default.not-Sync (number-same c.in-Err.why Sync e)))
