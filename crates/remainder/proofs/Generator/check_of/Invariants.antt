-- `remainder::Generator::check_of` meets its contract. The loop's invariant: the word's remainder is divided on, with a zero for each turn. Assumes nothing.
use mathlib.Core.Path.{◌≡◌}
use Prim.Native.Nat.{◌^◌, ◌<◌, ◌≤◌}
use lib.ListN.{take}
use Rattle.bits.specs.Digits.{digits}
use Rattle.remainder.specs.Polynomial.{zeros}
use Rattle.remainder.specs.Remainder.{divide, remainder}
use Rattle.remainder.proofs.Generator.check_of.Given as goal

abbrev pub invariant-loop-i : goal.invariant-loop-i
invariant-loop-i l =
    (l.i ≤ l.self.degree) × (l.reg < 2 ^ l.self.degree)
    × (digits 2 l.self.degree l.reg ≡ divide (digits 2 l.self.degree l.self.coefficients) (remainder (digits 2 l.self.degree l.self.coefficients) l.bits) (take l.i (zeros l.self.degree)))
