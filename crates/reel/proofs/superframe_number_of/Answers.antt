-- `reel::superframe_number_of` meets its contract. Assumes nothing.
use mathlib.Core.Path.{sym, ap, ◌∙◌}
use mathlib.Core.Logic.{⊎_elim}
use native.Mathlib.Omega.{arith}
use Rattle.std.proofs.lemmas.Result.{err_from_is_err_and}
use Rattle.reel.specs.Run.{run_answer}
use Rattle.reel.proofs.Run.{run-counted, part-refused, part-inside, part-before, part-behind}
use Rattle.reel.proofs.superframe_number_of.Goals as goal

pub returns-in_err-count : goal.returns-in_err-count
returns-in_err-count c =
    let handed = err_from_is_err_and c.from_residual.result c.from_residual.ensures.1 in
    rw (handed.1, handed.2) (part-refused _ _ _ c.in_err-count.ensures)

pub returns-then-k-lt1 : goal.returns-then-k-lt1
returns-then-k-lt1 c =
    let counted = run-counted c.args.run.now c.in_ok-count.count (sym (ap run_answer c.in_ok-count.was) ∙ c.run_count.ensures) in
    ⊎_elim (λ h. part-before _ _ counted.0 h) (λ h. part-behind _ _ counted.0 h.0 (omega (arith, counted.1, h.1))) c.then-k-lt1.either

pub returns : goal.returns
returns c =
    let counted = run-counted c.args.run.now c.in_ok-count.count (sym (ap run_answer c.in_ok-count.was) ∙ c.run_count.ensures) in
    part-inside _ _ counted.0 (omega arith) (omega (arith, counted.1))
