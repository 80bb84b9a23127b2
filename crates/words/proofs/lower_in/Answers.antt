-- `words::lower_in` meets its contract. Assumes nothing.
use mathlib.Core.Path.{ap}
use Prim.Native.Nat.{ℕ, ◌+◌, ◌*◌}
use native.Mathlib.Nat.{add-zero}
use native.Mathlib.Omega.{arith}
use lib.ListN.{get_or}
use Rattle.bits.specs.Table.{tabulate}
use Rattle.bits.specs.Digits.{value}
use Rattle.words.specs.Words.{lower_in}
use Rattle.words.proofs.lower_in.Goals as goal

pub returns : goal.returns
unfolding lower_in value tabulate
returns c =
    let a = c.args in
    let first = ap (λ (n : ℕ). get_or a.bits n 0) (add-zero (63 + 3 * a.channel)) in
    (omega (arith, c.from.ensures, first), omega (arith, c.from.ensures))
