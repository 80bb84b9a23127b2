-- `running::Running::lose` meets its contract. Assumes nothing.
use mathlib.Core.Path.{◌≡◌, sym, ◌∙◌}
use native.Mathlib.Omega.{arith}
use Rattle.std.specs.declared.result.Result.TheVariants.{Err}
use Rattle.running.specs.Running.{with_lost, lost_step}
use Rattle.running.proofs.More.{free, room, goes_on, stays}
use borrow.Author.Rules.{rules}
use Rattle.running.proofs.Running.lose.Goals as goal

pub returns-in_err-allowed : goal.returns-in_err-allowed
unfolding lost_step
returns-in_err-allowed c =
    let told : c.from_residual.result ≡ Err c.in_err-allowed.field-0.0 = search rules in
    rw (told, stays c.args.self (with_lost c.args.self) _ (sym c.allowed.ensures ∙ c.in_err-allowed.was))

pub overflow_add-result : goal.overflow_add-result
overflow_add-result c = let few = room _ (free c.args.self _ (sym c.allowed.ensures ∙ c.in_ok-allowed.was)).1 in omega (arith, few)

pub returns : goal.returns
unfolding lost_step with_lost
returns c = rw (goes_on c.args.self (with_lost c.args.self) _ (sym c.allowed.ensures ∙ c.in_ok-allowed.was))
