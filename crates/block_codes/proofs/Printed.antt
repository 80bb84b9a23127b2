-- The printed rows hold: one statement over the table.
--     printed-holds     THE STATEMENT
-- Assumes nothing.
use mathlib.Core.Path.{refl}
use Rattle.bits.specs.Table.{every, All}
use Rattle.bits.specs.Bits.{all_below}
use Rattle.bits.specs.Printed.{Same}
use Rattle.bits.proofs.Printed.{agrees, rows-hold}
use Rattle.block_codes.specs.Codes.{extra_at, codes_of}
use Rattle.block_codes.specs.Printed.{printed_rows}

pub printed-holds : All Same printed_rows
unfolding printed_rows every agrees all_below extra_at codes_of
printed-holds = rows-hold printed_rows refl
