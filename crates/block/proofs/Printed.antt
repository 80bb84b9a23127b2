-- The printed rows hold: one statement over the table.
--     printed-holds     THE STATEMENT
-- Assumes nothing.
use mathlib.Core.Path.{refl}
use Rattle.bits.specs.Table.{every, All}
use Rattle.bits.specs.Digits.{digits}
use Rattle.bits.specs.Bits.{all_below}
use Rattle.bits.specs.Printed.{row, Same}
use Rattle.bits.proofs.Printed.{agrees, rows-hold}
use Rattle.sample.specs.Signed.{mod_z}
use Rattle.sample.specs.Pattern.{pattern_of, code_bits}
use Rattle.block.specs.Layout.{joined, sound, rest}
use Rattle.block.specs.Read.{said_of}
use Rattle.block.specs.Printed.{printed_rows}

pub printed-holds : All Same printed_rows
unfolding printed_rows row every agrees digits all_below mod_z pattern_of code_bits joined sound rest said_of
printed-holds = rows-hold printed_rows refl
