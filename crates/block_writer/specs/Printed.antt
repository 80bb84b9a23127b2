-- The numbers that document 01 prints for writing a block ("Numbers given").
--     writing codes extra     the number that writing gives
--     printed_rows             THE TABLE: codes of 14 bits and what lies next to them; extra bits that are none
use Rattle.std.specs.Prelude.{List, [], ◌∷◌, ℕ, ℤ, pos, neg_ℤ}
use Rattle.bits.specs.Printed.{Row, ◌prints◌}
use Rattle.bits.specs.Refused.{number_in}
use Rattle.block_writer.specs.Written.{written_block}

abbrev pub writing : List ℤ → List ℕ → List ℕ
writing codes extra = number_in (written_block codes extra) ∷ []

unfoldable pub printed_rows : List Row
printed_rows =
    (writing (pos 8_191 ∷ neg_ℤ (pos 8_192) ∷ pos 0 ∷ pos 8_191 ∷ []) (0 ∷ 1 ∷ []) prints 0 ∷ [])
    ∷ (writing (pos 8_192 ∷ pos 0 ∷ pos 0 ∷ pos 0 ∷ []) (0 ∷ 1 ∷ []) prints 2 ∷ [])
    ∷ (writing (pos 0 ∷ pos 0 ∷ pos 0 ∷ neg_ℤ (pos 8_193) ∷ []) (0 ∷ 1 ∷ []) prints 2 ∷ [])
    ∷ (writing (pos 0 ∷ pos 0 ∷ pos 0 ∷ pos 0 ∷ []) (0 ∷ 2 ∷ []) prints 2 ∷ [])
    ∷ []
