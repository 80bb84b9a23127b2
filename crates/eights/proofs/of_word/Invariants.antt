-- `eights::of_word` meets its contract. The loop's invariant: the upper bytes are divided. Assumes nothing.
use mathlib.Core.Path.{◌≡◌}
use Prim.Native.Nat.{◌-◌, ◌*◌, ◌/◌, ◌^◌, ◌≤◌}
use Rattle.eights.specs.Eights.{eights}
use Rattle.eights.proofs.of_word.Given as goal

abbrev pub invariant-loop-i : goal.invariant-loop-i
invariant-loop-i l = (l.i ≤ 6) × (l.reg ≡ eights 11 l.table l.i (l.word / 2 ^ (48 - 8 * l.i)))
