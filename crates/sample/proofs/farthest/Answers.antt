-- `sample::farthest` meets its contract: the samples so far fit a factor exactly where the farthest of their reaches does. Assumes nothing.
use mathlib.Core.Path.{◌≡◌, sym, ap, ap₂, ◌∙◌}
use mathlib.Core.Bool.{Bool, ◌&&◌}
use Prim.Native.Nat.{ℕ, ◌-◌, ◌^◌, ◌≤◌}
use native.Mathlib.Omega.{arith}
use lib.Dec.{ltb}
use lib.ListN.{length, get_or}
use lib.Pow.{pow_pos}
use lib.Seq.{take_all}
use lib.IntN.{pos}
use lib.Signed.{mag}
use mir.Syntax.{w16}
use mir.ValLaws.{to_z-of_z}
use borrow.Author.Rules.{rules}
use borrow.Author.Tests.{lt-ltb}
use Rattle.bits.specs.Table.{every}
use Rattle.sample.specs.Sample.{fits}
use Rattle.sample.specs.Factor.{all_fit}
use Rattle.sample.proofs.Sample.{fits-mag}
use Rattle.bits.proofs.Every.{every_take}
use Rattle.sample.proofs.Factor.{both-below}
use Rattle.sample.proofs.farthest.Goals as goal

pub loop-sample-init : goal.loop-sample-init
unfolding every
loop-sample-init c = (search rules, λ s. sym (lt-ltb 0 (2 ^ (15 - s)) (pow_pos (15 - s))))

pub loop-sample-preserved : goal.loop-sample-preserved
loop-sample-preserved c =
    let l = c.loop-sample in
    let xs = c.args.samples.now in
    let x = get_or xs l.sample-index (pos 0) in
    let reached : c.reach.result ≡ mag x = c.reach.ensures ∙ ap mag (to_z-of_z w16 x (search rules)) in (
      search rules,
      λ s.
          every_take (fits s) xs l.sample-index (pos 0) (omega arith)
          ∙ ap₂ (λ (a b : Bool). a && b) (l.invariant.1 s) (fits-mag s x ∙ ap (λ (m : ℕ). ltb m (2 ^ (15 - s))) (sym reached))
          ∙ both-below l.most c.reach.result (2 ^ (15 - s)) ∙ ap (λ (m : ℕ). ltb m (2 ^ (15 - s))) (sym c.max-most.ensures),
    )

pub returns : goal.returns
returns c = λ s.
    let l = c.loop-sample in
    let xs = c.args.samples.now in
    let all : length xs ≤ l.sample-index = omega arith in
    ap (all_fit s) (sym (take_all l.sample-index xs all)) ∙ l.invariant.1 s
