-- `reading::columns` meets its contract: the table's rule, computed over the whole of it. Assumes nothing.
use mathlib.Core.Path.{ap}
use mathlib.Core.List.{List, map}
use Prim.Native.Nat.{ℕ}
use Rattle.bits.specs.Digits.{value}
use Rattle.remainder.specs.Polynomial.{◌⊕◌, times}
use Rattle.remainder.specs.Remainder.{take_off, step, divide, remainder}
use Rattle.remainder.specs.Columns.{column, columns}
use Rattle.code.proofs.Numbers.{block-coefficients}
use Rattle.reading.specs.Wrong.{column_numbers}
use Rattle.reading.proofs.columns.Goals as goal

pub returns : goal.returns
unfolding column_numbers value columns column remainder divide step take_off times ◌⊕◌
returns c = ap (λ (g : List ℕ). map (value 2) (columns g 63)) block-coefficients
