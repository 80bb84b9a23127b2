-- Laws of the header's numbers.
--     number_at-is      a big-endian number by its four bytes
-- Assumes nothing.
use mathlib.Core.Path.{◌≡◌}
use mathlib.Core.List.{List}
use Prim.Native.Nat.{ℕ, ◌+◌, ◌*◌}
use native.Mathlib.Nat.{add-zero}
use native.Mathlib.Omega.{arith}
use lib.ListN.{get_or}
use Rattle.bits.specs.Table.{tabulate}
use Rattle.bits.specs.Digits.{value}
use Rattle.reel.specs.Header.{number_at}

pub number_at-is : (bytes : List ℕ) (at : ℕ)
    → get_or bytes at 0 * 16_777_216 + get_or bytes (at + 1) 0 * 65_536 + get_or bytes (at + 2) 0 * 256 + get_or bytes (at + 3) 0 ≡ number_at bytes at
unfolding number_at value tabulate
number_at-is bytes at = rw (add-zero at) (omega arith)
