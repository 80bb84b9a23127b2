-- `stretches::step` meets its contract: after i turns, what the first i pairs do. Assumes nothing.
use Prim.Native.Nat.{ℕ, ◌*◌, ◌<◌}
use mathlib.Core.Path.{◌≡◌, sym, ap, ◌∙◌}
use mathlib.Core.List.{List}
use native.Mathlib.Omega.{arith}
use lib.ListN.{length, take, drop}
use lib.Seq.{take_all}
use Rattle.text.specs.Page.{put_text}
use Rattle.text.specs.Pens.{on}
use Rattle.text.proofs.Pens.{puts_as, puts_none}
use Rattle.stretches.specs.Stretches.{from, opened}
use Rattle.label.specs.Lines.{lines}
use Rattle.stretches.proofs.Laws.{one-open, none-ended, turn_last, turn_lines}
use Rattle.stretches.proofs.step.Goals as goal

pub loop-i-init : goal.loop-i-init
unfolding from lines
loop-i-init c =
    record { last = sym (one-open c.args.last); text = puts_as (sym (ap lines (none-ended c.args.last))) (puts_none _) }

pub loop-i-preserved : goal.loop-i-preserved
loop-i-preserved c =
    let l = c.loop-i in
    let a = c.args in
    let within : l.i < length a.kinds = omega arith in
    record {
      last = turn_last a.last (64 * a.k) a.kinds l.i within l.going l.invariant.last c.meet-going.result (rw c.from-first.ensures at c.meet-going.ensures.last);
      text = turn_lines a.last (64 * a.k) a.kinds l.i within l.going l.invariant.last l.invariant.text (rw c.from-first.ensures at c.meet-going.ensures.text);
    }

pub returns : goal.returns
returns c =
    let l = c.loop-i in
    let a = c.args in
    let all : take l.i a.kinds ≡ a.kinds = take_all l.i a.kinds (omega arith) in
    record {
      same_buffer = l.invariant.text.same_buffer;
      told =
          record {
            last = l.invariant.last ∙ ap (λ (ks : List ℕ). take 1 (from (opened a.last) (64 * a.k) ks)) all;
            text = l.invariant.text.told ∙ ap (λ (ks : List ℕ). put_text (on a.pen.now) (lines (drop 1 (from (opened a.last) (64 * a.k) ks)))) all;
          };
    }
