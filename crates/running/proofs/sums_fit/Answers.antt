-- `running::sums_fit` meets its contract. Assumes nothing.
use mathlib.Core.Path.{refl, ◌∙◌}
use Rattle.std.proofs.Common.{rules, tests}
use Rattle.std.proofs.lemmas.Iterator.{YieldsList-from_range}
use Rattle.std.proofs.lemmas.Iterator.Search.{all_from_yields_List}
use Rattle.bits.specs.Table.{tabulate}
use Rattle.bits.proofs.Every.{all-every-is}
use Rattle.running.specs.Running.{programme_fits, sums_fit}
use Rattle.running.proofs.sums_fit.Goals as goal

pub returns : goal.returns
unfolding sums_fit tabulate
returns c =
    let fits = programme_fits c.args.totals in
    all_from_yields_List fits _ _ _ c.all.ensures.ran (YieldsList-from_range 0 16 16 refl refl) (λ q b f k. search (rules, tests))
    ∙ all-every-is fits _
