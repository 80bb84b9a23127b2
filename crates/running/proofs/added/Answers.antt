-- `running::added` meets its contract. Assumes nothing.
use mathlib.Core.Path.{refl, ap}
use Prim.Native.Nat.{ℕ, ◌+◌}
use native.Mathlib.Omega.{arith}
use lib.ListN.{get_or}
use Rattle.bits.specs.Table.{tabulate}
use Rattle.bits.proofs.Table.{tab-more, tab-done}
use Rattle.running.specs.Running.{added_to}
use borrow.Author.Rules.{rules}
use Rattle.running.proofs.added.Goals as goal
use Rattle.running.proofs.added.Invariants.{one}

pub loop-q-init : goal.loop-q-init
unfolding tabulate
loop-q-init c = (search rules, search rules, refl)

pub overflow_add-out : goal.overflow_add-out
overflow_add-out c =
    let l = c.loop-q in
    omega (arith, c.wide.ensures.1, c.requires.each l.q (omega arith))

pub loop-q-preserved : goal.loop-q-preserved
loop-q-preserved c =
    let l = c.loop-q in
    (search rules, search rules, tab-more (one c.args.totals c.args.counts) l.out l.q _ (omega arith) l.invariant.2 (ap (λ (n : ℕ). get_or c.args.totals l.q 0 + n) c.wide.ensures.0))

pub returns : goal.returns
unfolding added_to
returns c =
    let l = c.loop-q in
    tab-done (one c.args.totals c.args.counts) l.out 16 l.q (omega arith) (omega arith) (omega arith) l.invariant.2
