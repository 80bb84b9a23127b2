-- The printed rows hold: one statement over the table.
--     printed-holds     THE STATEMENT
-- Assumes nothing.
use mathlib.Core.Path.{refl}
use Rattle.bits.specs.Table.{every, All}
use Rattle.bits.specs.Digits.{digits}
use Rattle.bits.specs.Printed.{row, Same}
use Rattle.bits.proofs.Printed.{agrees, rows-hold}
use Rattle.remainder.specs.Polynomial.{◌⊕◌, times}
use Rattle.remainder.specs.Remainder.{take_off, step, divide, remainder, check_bits}
use Rattle.code.specs.Generators.{power, powers, scale_generator}
use Rattle.code.specs.Words.{encode}
use Rattle.scale.specs.Word.{scale_word, written_scale}
use Rattle.scale.specs.Printed.{printed_rows}

pub printed-holds : All Same printed_rows
unfolding printed_rows row every agrees digits ◌⊕◌ times take_off step divide remainder check_bits power powers scale_generator encode scale_word written_scale
printed-holds = rows-hold printed_rows refl
