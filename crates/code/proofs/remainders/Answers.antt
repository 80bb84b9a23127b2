-- `code::remainders` meets its contract: the table's rule, computed over the whole of it. Assumes nothing.
use mathlib.Core.Path.{ap}
use Rattle.bits.specs.Table.{tabulate}
use Rattle.bits.specs.Digits.{value, digits}
use Rattle.remainder.specs.Polynomial.{◌⊕◌, times}
use Rattle.remainder.specs.Remainder.{take_off, step, divide, remainder, check_bits}
use Rattle.eights.specs.Eights.{remainders_of}
use Rattle.code.proofs.Numbers.{block-coefficients}
use Rattle.code.proofs.remainders.Goals as goal

pub returns : goal.returns
unfolding remainders_of tabulate value digits check_bits remainder divide step take_off times ◌⊕◌
returns c = ap remainders_of block-coefficients
