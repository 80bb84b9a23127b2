-- `tally::sum` meets its contract: so many of the counts are added. Assumes nothing.
use mathlib.Core.Path.{◌≡◌, refl, ◌∙◌}
use native.Mathlib.Omega.{arith}
use lib.ListN.{length, get_or}
use mir.Syntax.{w8}
use mir.Val.{Fits}
use Rattle.tally.specs.Totals.{sum_of}
use Rattle.tally.proofs.Sums.{sum_more, sum-all}
use borrow.Author.Rules.{rules}
use Rattle.tally.proofs.sum.Goals as goal

pub loop-n-init : goal.loop-n-init
unfolding sum_of
loop-n-init c = (omega arith, omega arith, refl)

pub loop-n-preserved : goal.loop-n-preserved
loop-n-preserved c =
    let l = c.loop-n in
    let counts = c.args.counts in
    let eight : length counts ≡ 8 = search rules in
    let byte : Fits w8 (get_or counts l.n-index 0) = search rules in
    let here = c.from-sum.ensures in
    (omega arith, omega (arith, byte, here, l.invariant.1), omega (arith, here, l.invariant.2, sum_more counts l.n-index (omega (arith, eight))))

pub returns : goal.returns
returns c =
    let l = c.loop-n in
    let counts = c.args.counts in
    let eight : length counts ≡ 8 = search rules in
    l.invariant.2 ∙ sum-all counts l.n-index (omega (arith, eight))
