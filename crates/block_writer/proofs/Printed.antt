-- The printed rows hold: one statement over the table.
--     printed-holds     THE STATEMENT
-- Assumes nothing.
use mathlib.Core.Path.{refl}
use Rattle.bits.specs.Table.{every, All}
use Rattle.bits.specs.Bits.{all_below}
use Rattle.bits.specs.Printed.{Same}
use Rattle.bits.proofs.Printed.{agrees, rows-hold}
use Rattle.sample.specs.Sample.{is_code}
use Rattle.block_writer.specs.Written.{written_block}
use Rattle.block_writer.specs.Printed.{printed_rows}

pub printed-holds : All Same printed_rows
unfolding printed_rows every agrees all_below is_code written_block
printed-holds = rows-hold printed_rows refl
