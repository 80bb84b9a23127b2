-- `sample::factor_of` meets its contract: the samples fit the factors that their farthest reach fits. Assumes nothing.
use mathlib.Core.Path.{sym, ap, ◌∙◌}
use mathlib.Core.List.{[], ◌∷◌}
use Prim.Native.Nat.{ℕ, ◌-◌, ◌^◌}
use lib.Dec.{ltb}
use lib.ListN.{length}
use borrow.Author.Tests.{eq-eqb}
use Rattle.bits.specs.Answer.{accepted}
use Rattle.sample.specs.Factor.{all_fit, factor_of, factor_answer}
use Rattle.sample.proofs.Factor.{largest-ext}
use Rattle.sample.proofs.factor_of.Goals as goal

pub returns : goal.returns
unfolding factor_answer factor_of
returns c =
    let xs = c.args.samples.now in
    let far = c.farthest.result in
    let same = largest-ext 7 (λ s. ltb far (2 ^ (15 - s))) (λ s. all_fit s xs) (λ s. sym (c.farthest.ensures s)) in
    rw (eq-eqb (length xs) 64 c.if-samples-ne64.false) (ap (λ (s : ℕ). accepted (s ∷ [])) (c.factor_for.ensures ∙ same))
