-- `bits::byte_from` meets its contract: the sum is the number that the bits so far make. Assumes nothing.
use mathlib.Core.Path.{◌≡◌}
use Prim.Native.Nat.{◌+◌, ◌-◌, ◌%◌, ◌^◌, ◌<◌, ◌≤◌}
use lib.ListN.{get_or}
use Rattle.bits.specs.Table.{tabulate}
use Rattle.bits.specs.Digits.{value}
use Rattle.bits.proofs.byte_from.Given as goal

abbrev pub invariant-loop-j : goal.invariant-loop-j
invariant-loop-j l =
    (l.j ≤ 8) × (l.sum < 2 ^ l.j) × (l.sum ≡ value 2 (tabulate l.j (λ j. get_or l.bits (l.at + j) 0 % 2)))

abbrev pub decreases-loop-j : goal.decreases-loop-j
decreases-loop-j l = 8 - l.j
