-- `text_rows::put_turns` meets its contract: after i turns the pen has put the first i texts. Assumes nothing.
use mathlib.Core.Path.{◌≡◌, ap}
use Prim.Native.Nat.{ℕ}
use native.Mathlib.Omega.{arith}
use Rattle.text.proofs.Pens.{puts_as}
use Rattle.text_rows.specs.Turns.{in_turn}
use Rattle.text_rows.proofs.Turns.{turns_none, turns_more}
use Rattle.text_rows.proofs.put_turns.Goals as goal

pub loop-i-init : goal.loop-i-init
loop-i-init g c f puts = turns_none _ f

pub loop-i-preserved : goal.loop-i-preserved
loop-i-preserved g c f puts = turns_more f _ (c.loop-i.invariant f puts) (puts _ _ _ (omega arith) c.put.ensures)

pub returns : goal.returns
returns g c f puts =
    let all : c.loop-i.i ≡ c.args.n = omega arith in
    puts_as (ap (λ (n : ℕ). in_turn n f) all) (c.loop-i.invariant f puts)
