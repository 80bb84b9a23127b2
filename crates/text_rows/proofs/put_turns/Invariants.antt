-- `text_rows::put_turns` meets its contract: after i turns the pen has put the first i texts. Assumes nothing.
use Prim.Native.Nat.{ℕ}
use mathlib.Core.List.{List}
use Rattle.text.specs.Pens.{Puts}
use Rattle.text_rows.specs.Turns.{in_turn, PutsTurns}
use Rattle.text_rows.proofs.put_turns.Given as goal

abbrev pub invariant-loop-i : goal.invariant-loop-i
invariant-loop-i g l = (f : ℕ → List ℕ) → PutsTurns (goal.F-post g l.put) l.n f → Puts l.initial.pen l.pen (in_turn l.i f)
