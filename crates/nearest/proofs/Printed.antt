-- The printed rows hold: one statement over the table.
--     printed-holds     THE STATEMENT
-- Assumes nothing.
use mathlib.Core.Path.{refl}
use Rattle.bits.specs.Table.{tabulate, every, All}
use Rattle.bits.specs.Digits.{value, digits}
use Rattle.bits.specs.Bits.{ones, all_below}
use Rattle.bits.specs.Printed.{row, Same}
use Rattle.bits.proofs.Printed.{agrees, rows-hold}
use Rattle.remainder.specs.Polynomial.{◌⊕◌, times}
use Rattle.remainder.specs.Remainder.{take_off, step, divide, remainder, check_bits}
use Rattle.code.specs.Generators.{power, powers, scale_generator}
use Rattle.code.specs.Words.{encode, distance}
use Rattle.scale.specs.Word.{scale_word}
use Rattle.nearest.specs.Reading.{away, fewest, pairs_at, only, read_scale, scale_answer}
use Rattle.nearest.specs.Extra.{information, extra_answer}
use Rattle.nearest.specs.Printed.{printed_rows}

pub printed-holds : All Same printed_rows
unfolding printed_rows row every tabulate agrees value digits ones all_below ◌⊕◌ times take_off step divide remainder check_bits power powers scale_generator encode distance scale_word away fewest pairs_at only read_scale scale_answer information extra_answer
printed-holds = rows-hold printed_rows refl
