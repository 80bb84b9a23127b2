-- `tally::Totals::with_read` meets its contract. Assumes nothing.
use mathlib.Core.Path.{ap, ◌∙◌}
use Rattle.tally.specs.Totals.{grown, with_counted}
use Rattle.tally.proofs.Sums.{grown-none}
use borrow.Author.Rules.{rules}
use Rattle.tally.proofs.Totals.with_read.Goals as goal

pub returns : goal.returns
unfolding with_counted
returns c =
    let t = c.args.self in
    rw (
      c.grow.ensures,
      c.grow-2.ensures ∙ ap (grown t.wrong) c.from.ensures,
      c.grow-3.ensures ∙ ap (grown t.clean) c.sum.ensures,
      c.grow-4.ensures ∙ ap (grown t.mended) c.sum-2.ensures,
      c.grow-5.ensures ∙ ap (grown t.bad) c.sum-3.ensures,
      grown-none t.lost (search rules),
    )
