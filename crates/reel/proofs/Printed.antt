-- The printed rows hold: one statement over the table. A run of 1,000,000 superframes is too long to print: it is told by its length.
--     printed-holds     THE STATEMENT
--     longest_run       1,000,000 superframes are 5,120,000,000 bytes, and one more is no run
-- Assumes nothing.
use mathlib.Core.Path.{◌≡◌, refl}
use mathlib.Core.List.{List, [], ◌∷◌}
use Prim.Native.Nat.{ℕ}
use lib.ListN.{length}
use Rattle.bits.specs.Table.{tabulate, every, All}
use Rattle.bits.specs.Digits.{value}
use Rattle.bits.specs.Answer.{accepted, refused}
use Rattle.bits.specs.Printed.{nibble, nibbles, paired, Same}
use Rattle.bits.proofs.Printed.{agrees, rows-hold}
use Rattle.reel.specs.Header.{number_at, good_header, header_of}
use Rattle.reel.specs.Run.{is_run, run_of, part_number}
use Rattle.reel.specs.Printed.{printed_rows}

pub printed-holds : All Same printed_rows
unfolding printed_rows nibble nibbles paired every tabulate agrees value number_at good_header header_of is_run run_of part_number
printed-holds = rows-hold printed_rows refl

pub longest_run : (bytes : List ℕ) → (length bytes ≡ 5_120_000_000 → run_of bytes ≡ accepted (1_000_000 ∷ [])) × (length bytes ≡ 5_120_005_120 → run_of bytes ≡ refused 1)
unfolding is_run run_of
longest_run bytes = (λ e. rw e, λ e. rw e)
