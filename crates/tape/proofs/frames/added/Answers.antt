-- `tape::frames::added` meets its contract. Assumes nothing.
use mathlib.Core.Path.{◌≡◌, refl, sym, ap₂, ◌∙◌}
use Prim.Native.Nat.{ℕ, ◌+◌}
use native.Mathlib.Omega.{arith}
use borrow.Author.Count.{below_more}
use Rattle.tape.specs.Tape.{wrong_at, sum_to, wrong_bits, syncs_added}
use Rattle.tape.proofs.Tape.{all-sync, not-sync, sum_more}
use borrow.Author.Rules.{rules}
use Rattle.tape.proofs.frames.added.Goals as goal

pub loop-f-init : goal.loop-f-init
unfolding sum_to
loop-f-init c = (search rules, (λ k l. omega arith), refl, search rules)

pub returns-then-here-gt-MOST_WRONG : goal.returns-then-here-gt-MOST_WRONG
unfolding syncs_added
returns-then-here-gt-MOST_WRONG c =
    rw (not-sync c.args.sf.now c.loop-f.f (omega arith) (omega (arith, c.wrong_at-here.ensures)))

pub loop-f-preserved : goal.loop-f-preserved
loop-f-preserved c =
    let here = c.wrong_at-here.ensures in (
      search rules,
      below_more _ _ c.loop-f.invariant.1 (omega (arith, here)),
      ap₂ (λ (a b : ℕ). a + b) c.loop-f.invariant.2 (c.from-wrong.ensures ∙ here) ∙ sym (sum_more c.loop-f.f (wrong_at c.args.sf.now)),
      omega (arith, c.loop-f.invariant.3),
    )

pub returns : goal.returns
unfolding syncs_added wrong_bits
returns c =
    let sf = c.args.sf.now in
    let all : c.loop-f.f ≡ 128 = omega arith in
    rw (all-sync sf (λ k l. c.loop-f.invariant.1 k (omega arith)), c.loop-f.invariant.2, all)
