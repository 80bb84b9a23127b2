-- `superframe::state::State::lose` meets its contract. Assumes nothing.
use mathlib.Core.Path.{sym, ap, ◌∙◌}
use Rattle.std.proofs.lemmas.Result.{err_from_is_err_and}
use Rattle.superframe.specs.State.{missing}
use Rattle.superframe.proofs.Parts.{lost-by, lost-is}
use Rattle.superframe.proofs.state.State.lose.Goals as goal

pub returns-in_err-totals : goal.returns-in_err-totals
returns-in_err-totals c =
    let ranged = sym c.in_range.ensures ∙ c.if-not-in_range.false in
    let self = c.args.self in
    let handed = err_from_is_err_and c.from_residual.result c.from_residual.ensures.1 in
    rw (handed.1, handed.2) (sym (lost-is self ranged ∙ ap (lost-by self) (sym c.lose.ensures ∙ c.in_err-totals.was)))

pub returns : goal.returns
unfolding missing
returns c =
    let ranged = sym c.in_range.ensures ∙ c.if-not-in_range.false in
    let self = c.args.self in
    rw c.fresh.ensures (sym (lost-is self ranged ∙ ap (lost-by self) (sym c.lose.ensures ∙ c.in_ok-totals.was)))
