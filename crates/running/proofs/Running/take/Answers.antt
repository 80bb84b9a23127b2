-- `running::Running::take` meets its contract. Assumes nothing.
use mathlib.Core.Path.{◌≡◌, sym, ◌∙◌}
use native.Mathlib.Omega.{arith}
use Rattle.std.specs.declared.result.Result.TheVariants.{Err}
use Rattle.running.specs.Running.{with_taken, taken_step}
use Rattle.running.proofs.Sums.{bounded}
use Rattle.running.proofs.More.{free, room, goes_on, stays}
use borrow.Author.Rules.{rules}
use Rattle.running.proofs.Running.take.Goals as goal

pub returns-in_err-allowed : goal.returns-in_err-allowed
unfolding taken_step
returns-in_err-allowed c =
    let told : c.from_residual.result ≡ Err c.in_err-allowed.field-0.0 = search rules in
    rw (told, stays c.args.self (with_taken c.args.self c.args.blocks) _ (sym c.allowed.ensures ∙ c.in_err-allowed.was))

pub overflow_add-result : goal.overflow_add-result
overflow_add-result c = let few = room _ (free c.args.self _ (sym c.allowed.ensures ∙ c.in_ok-allowed.was)).1 in omega (arith, few)

pub added-requires : goal.added-requires
added-requires c = (bounded _ (free c.args.self _ (sym c.allowed.ensures ∙ c.in_ok-allowed.was)).0).0

pub added-requires-2 : goal.added-requires-2
added-requires-2 c = (bounded _ (free c.args.self _ (sym c.allowed.ensures ∙ c.in_ok-allowed.was)).0).1

pub added-requires-3 : goal.added-requires-3
added-requires-3 c = (bounded _ (free c.args.self _ (sym c.allowed.ensures ∙ c.in_ok-allowed.was)).0).2

pub returns : goal.returns
unfolding taken_step with_taken
returns c = rw (goes_on c.args.self (with_taken c.args.self c.args.blocks) _ (sym c.allowed.ensures ∙ c.in_ok-allowed.was), c.added-3.ensures, c.added-2.ensures, c.added.ensures)
