-- The printed rows hold: one statement over the table.
--     printed-holds     THE STATEMENT
-- Assumes nothing.
use mathlib.Core.Path.{refl}
use Rattle.bits.specs.Table.{every, All}
use Rattle.bits.specs.Digits.{value, digits}
use Rattle.bits.specs.Bits.{ones}
use Rattle.bits.specs.Letters.{letters}
use Rattle.bits.specs.Printed.{row, nibble, nibbles, paired, Same}
use Rattle.bits.proofs.Printed.{agrees, rows-hold}
use Rattle.programme.specs.Byte.{kind, music, mode, even, made, read_byte, write_byte}
use Rattle.programme.specs.Names.{names, padded, name_of, name_for}
use Rattle.programme.specs.Printed.{printed_rows}

pub printed-holds : All Same printed_rows
unfolding printed_rows row nibble nibbles paired every agrees value digits ones letters kind music mode even made read_byte write_byte names padded name_of name_for
printed-holds = rows-hold printed_rows refl
