-- `tape::blocks::tally` meets its contract. Assumes nothing.
use mathlib.Core.Path.{◌≡◌, refl, sym, ap, ◌∙◌}
use mathlib.Core.Bool.{Bool}
use Prim.Native.Nat.{ℕ, ◌+◌, ◌*◌}
use native.Mathlib.Omega.{arith}
use borrow.Author.Tests.{eq-eqb, ne_eqb}
use lib.Dec.{eqb}
use lib.ListN.{get_or}
use Rattle.tape.specs.Tape.{how_many}
use Rattle.tape.proofs.Tape.{many-yes, many-no}
use borrow.Author.Rules.{rules}
use Rattle.tape.proofs.blocks.tally.Goals as goal
use Rattle.tape.proofs.blocks.tally.Goals.{then-marks-f, else-marks-f}

pub loop-f-init : goal.loop-f-init
unfolding how_many
loop-f-init c = (search rules, refl, search rules)

pub loop-f-preserved : goal.loop-f-preserved
loop-f-preserved c =
    let l = c.loop-f in
    let a = c.args in
    let P : ℕ → Bool = λ f. eqb (get_or a.marks (8 * f + a.p) 0) a.mark in (
      search rules,
      elim c.if-marks-f.branch [ then-marks-f w ↦ w.sum-is ∙ ap (λ (x : ℕ). x + 1) l.invariant.1 ∙ sym (many-yes l.f P (eq-eqb _ _ w.if-marks-f.true)) | else-marks-f w ↦ w.sum-is ∙ l.invariant.1 ∙ sym (many-no l.f P (ne_eqb _ _ w.if-marks-f.false)) ],
      elim c.if-marks-f.branch [ then-marks-f w ↦ omega arith | else-marks-f w ↦ omega arith ],
    )

pub returns : goal.returns
returns c =
    let end : c.loop-f.f ≡ 64 = omega arith in
    rw end at c.loop-f.invariant.1
