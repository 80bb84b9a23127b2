-- `put_spelled` meets its contract: after i turns the pen has put the texts of the first i bytes. Assumes nothing.
use Prim.Native.Nat.{ℕ}
use mathlib.Core.List.{List}
use lib.ListN.{take}
use Rattle.text.specs.Pens.{Puts}
use Rattle.text_rows.specs.Rows.{spelled, PutsEach}
use Rattle.text_rows.proofs.put_spelled.Given as goal

abbrev pub invariant-loop-byte : goal.invariant-loop-byte
invariant-loop-byte g l = (f : ℕ → List ℕ) → PutsEach (goal.F-post g l.put) f → Puts l.initial.pen l.pen (spelled f (take l.byte-index l.bytes))
