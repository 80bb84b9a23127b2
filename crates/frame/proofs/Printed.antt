-- The printed rows hold: one statement over the table.
--     printed-holds     THE STATEMENT
-- Assumes nothing.
use mathlib.Core.Path.{refl}
use Rattle.bits.specs.Table.{tabulate, every, All}
use Rattle.bits.specs.Digits.{digits}
use Rattle.bits.specs.Bits.{bit_at, ones}
use Rattle.bits.specs.Printed.{row, nibble, nibbles, paired, Same}
use Rattle.bits.proofs.Printed.{agrees, rows-hold}
use Rattle.remainder.specs.Polynomial.{◌⊕◌}
use Rattle.code.specs.Words.{distance}
use Rattle.frame.specs.Frame.{sync_word, service_in}
use Rattle.frame.specs.Read.{wrong_sync, service_read, read_frame}
use Rattle.frame.specs.Printed.{printed_rows}

pub printed-holds : All Same printed_rows
unfolding printed_rows row nibble nibbles paired every tabulate agrees digits bit_at ones ◌⊕◌ distance sync_word service_in wrong_sync service_read read_frame
printed-holds = rows-hold printed_rows refl
