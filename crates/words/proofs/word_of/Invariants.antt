-- `words::word_of` meets its contract: the number that the bits so far make. Assumes nothing.
use mathlib.Core.Path.{◌≡◌}
use Prim.Native.Nat.{◌+◌, ◌*◌, ◌^◌, ◌<◌, ◌≤◌}
use Rattle.bits.specs.Table.{tabulate}
use Rattle.bits.specs.Digits.{value}
use Rattle.words.proofs.Words.{digit}
use Rattle.words.proofs.word_of.Given as goal

abbrev pub invariant-loop-i : goal.invariant-loop-i
invariant-loop-i l = (l.i ≤ 7) × (l.word < 2 ^ (7 + 8 * l.i)) × (l.word ≡ value 2 (tabulate (7 + 8 * l.i) (digit l.bits)))
