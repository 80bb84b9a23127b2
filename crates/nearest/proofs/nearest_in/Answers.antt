-- `nearest::nearest_in` meets its contract. Assumes nothing.
use mathlib.Core.Path.{◌≡◌}
use mathlib.Core.List.{List}
use Prim.Native.Nat.{ℕ, ◌/◌, ◌^◌, ◌<◌}
use native.Mathlib.Omega.{arith}
use borrow.Author.Rules.{rules}
use Rattle.bits.specs.Digits.{value}
use Rattle.nearest.specs.Search.{bits_from}
use Rattle.nearest.proofs.Numbers.{number_small, near-told, best-told}
use Rattle.nearest.proofs.nearest_in.Goals as goal

-- the 42 bits as a number
small : (bits : List ℕ) (n : ℕ) → n ≡ value 2 (bits_from bits 0 42) → n < 2 ^ 42
small bits n e = rw e (number_small bits 0 42)

pub overflow_cast-came : goal.overflow_cast-came
overflow_cast-came c = let h = small _ _ c.number_from-number.ensures in search rules

pub far-places-requires : goal.far-places-requires
far-places-requires c = let h = small _ _ c.number_from-number.ensures in (c.sent-words.ensures, h, omega arith)

pub returns-then-places-le7 : goal.returns-then-places-le7
returns-then-places-le7 c =
    let h = small _ _ c.number_from-number.ensures in
    near-told _ c.number_from-number.result c.number_from-number.ensures (c.number_from-number.result / 2 ^ 36) c.far-places.result (omega arith) c.far-places.ensures c.if-places-le7.true

pub best_of-requires : goal.best_of-requires
best_of-requires c = (c.sent-words.ensures, small _ _ c.number_from-number.ensures)

pub returns : goal.returns
returns c =
    best-told _ c.number_from-number.result c.number_from-number.ensures c.best_of.result c.best_of.ensures
