-- The printed rows hold: one statement over the table.
--     printed-holds     THE STATEMENT
-- Assumes nothing.
use mathlib.Core.Path.{refl}
use Rattle.bits.specs.Table.{every, All}
use Rattle.bits.specs.Bits.{all_below}
use Rattle.bits.specs.Printed.{row, Same}
use Rattle.bits.proofs.Printed.{agrees, rows-hold}
use Rattle.service_sync.specs.Sync.{agree, kind_of}
use Rattle.service.specs.Service.{in_range, accepts, served}
use Rattle.service.specs.Printed.{printed_rows}

pub printed-holds : All Same printed_rows
unfolding printed_rows row every agrees all_below agree kind_of in_range accepts served
printed-holds = rows-hold printed_rows refl
