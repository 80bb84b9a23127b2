-- The printed rows hold: one statement over the table.
--     printed-holds     THE STATEMENT
-- Assumes nothing.
use mathlib.Core.Path.{refl}
use Rattle.bits.specs.Table.{tabulate, every, All}
use Rattle.bits.specs.Digits.{value}
use Rattle.bits.specs.Bits.{all_below, eight_at, byte_at, bytes_of}
use Rattle.bits.specs.Printed.{nibble, nibbles, paired, Same}
use Rattle.bits.proofs.Printed.{agrees, rows-hold}
use Rattle.frame.specs.Frame.{sync_word, service_in, interleave, frame_bits, frame_bytes}
use Rattle.frame_writer.specs.Write.{good_values, write_number}
use Rattle.frame_writer.specs.Printed.{printed_rows}

pub printed-holds : All Same printed_rows
unfolding printed_rows nibble nibbles paired every tabulate agrees value all_below eight_at byte_at bytes_of sync_word service_in interleave frame_bits frame_bytes good_values write_number
printed-holds = rows-hold printed_rows refl
