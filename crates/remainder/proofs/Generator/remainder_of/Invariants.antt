-- `remainder::Generator::remainder_of` meets its contract. The loop's invariant: the register's digits are the division so far. Assumes nothing.
use mathlib.Core.Path.{◌≡◌}
use Prim.Native.Nat.{◌^◌, ◌<◌, ◌≤◌}
use lib.ListN.{length, take}
use Rattle.bits.specs.Digits.{digits}
use Rattle.remainder.specs.Polynomial.{zeros}
use Rattle.remainder.specs.Remainder.{divide}
use Rattle.remainder.proofs.Generator.remainder_of.Given as goal

abbrev pub invariant-loop-bit : goal.invariant-loop-bit
invariant-loop-bit l =
    (l.bit-index ≤ length l.bits) × (l.reg < 2 ^ l.self.degree) × (digits 2 l.self.degree l.reg ≡ divide (digits 2 l.self.degree l.self.coefficients) (zeros l.self.degree) (take l.bit-index l.bits))
