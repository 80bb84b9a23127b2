-- `block_codes::pattern_at` meets its contract: the number that the bits so far make. Assumes nothing.
use mathlib.Core.Path.{◌≡◌}
use Prim.Native.Nat.{◌^◌, ◌<◌, ◌≤◌}
use lib.ListN.{take}
use Rattle.bits.specs.Digits.{value}
use Rattle.block.specs.Layout.{fourteen}
use Rattle.block_codes.proofs.pattern_at.Given as goal

abbrev pub invariant-loop-k : goal.invariant-loop-k
invariant-loop-k l =
    (l.k ≤ 14) × (l.pattern < 2 ^ l.k) × (l.pattern ≡ value 2 (take l.k (fourteen l.bits l.channel)))
