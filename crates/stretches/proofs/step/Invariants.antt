-- `stretches::step` meets its contract: after i turns, what the first i pairs do. Assumes nothing.
use Prim.Native.Nat.{◌*◌}
use mathlib.Core.Path.{◌≡◌}
use lib.ListN.{take, drop}
use Rattle.text.specs.Pens.{Puts}
use Rattle.stretches.specs.Stretches.{from, opened}
use Rattle.label.specs.Lines.{lines}
use Rattle.stretches.proofs.step.Given as goal

abbrev pub invariant-loop-i : goal.invariant-loop-i
invariant-loop-i l =
    record {
      last : opened l.going ≡ take 1 (from (opened l.initial.going) (64 * l.k) (take l.i l.kinds));
      text : Puts l.initial.pen l.pen (lines (drop 1 (from (opened l.initial.going) (64 * l.k) (take l.i l.kinds))));
    }
