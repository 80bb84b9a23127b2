-- `block_writer::code_bit` meets its contract. Assumes nothing.
use mathlib.Core.Path.{◌≡◌, sym}
use Prim.Native.Nat.{ℕ, ◌-◌, ◌/◌, ◌%◌, ◌^◌, ◌<◌}
use native.Mathlib.Omega.{arith}
use lib.IntN.{ℤ}
use lib.ListN.{get_or}
use mir.Syntax.{w16}
use mir.ValLaws.{to_z-of_z}
use Rattle.bits.proofs.Digits.{get_or-digits}
use Rattle.sample.specs.Pattern.{code_bits, pattern_of}
use Rattle.block_writer.proofs.code_bit.Goals as goal

-- bit k of a code by a shift
code-bit-is : (c : ℤ) (k : ℕ) → k < 14 → pattern_of 8192 c / 2 ^ (13 - k) % 2 ≡ get_or (code_bits c) k 0
unfolding code_bits
code-bit-is c k h = sym (get_or-digits 2 14 (pattern_of 8192 c) k h)

pub returns : goal.returns
returns c =
    let a = c.args in
    rw (c.pattern_of.ensures, to_z-of_z w16 a.code c.ranges.code) (code-bit-is a.code a.k (omega arith))
