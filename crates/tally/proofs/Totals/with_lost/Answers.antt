-- `tally::Totals::with_lost` meets its contract. Assumes nothing.
use Rattle.tape.specs.Tape.{no_blocks}
use Rattle.tally.specs.Totals.{sum_of, with_counted}
use Rattle.tally.proofs.Sums.{grown-none}
use borrow.Author.Rules.{rules}
use Rattle.tally.proofs.Totals.with_lost.Goals as goal

pub returns : goal.returns
unfolding with_counted no_blocks sum_of
returns c =
    let t = c.args.self in
    rw (
      c.grow.ensures,
      c.grow-2.ensures,
      grown-none t.wrong (search rules),
      grown-none t.clean (search rules),
      grown-none t.mended (search rules),
      grown-none t.bad (search rules),
    )
