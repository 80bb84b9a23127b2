-- What document 01 prints of a block ("The block", "Numbers given").
--     reading block     the number that reading gives, at the ordinary radius
--     printed_rows       THE TABLE: the upper 11 bits of four codes, their lower 3, by channel and upper bits first; an entry that is no bit
use Rattle.std.specs.Prelude.{List, [], ◌∷◌, ◌++◌, ℕ, pos, neg_ℤ, replicate}
use Rattle.bits.specs.Printed.{row, Row, ◌prints◌}
use Rattle.block.specs.Layout.{sound, rest}
use Rattle.reading.specs.Reading.{ordinary}
use Rattle.block.specs.Read.{said_of}

abbrev pub reading : List ℕ → List ℕ
reading block = (said_of ordinary block).number ∷ []

unfoldable pub printed_rows : List Row
printed_rows =
    -- 14 bits: 10000000000000, 01000000000001, 00000000001010, 11111111111100
    (sound (neg_ℤ (pos 8_192) ∷ pos 4_097 ∷ pos 10 ∷ neg_ℤ (pos 4) ∷ []) prints row "10000000000010000000000000000000111111111111")
    ∷ (rest (neg_ℤ (pos 8_192) ∷ pos 4_097 ∷ pos 10 ∷ neg_ℤ (pos 4) ∷ []) prints row "000001010100")
    ∷ (reading (replicate 77 1) prints 0 ∷ [])
    ∷ (reading (replicate 76 1 ++ (2 ∷ [])) prints 2 ∷ [])
    ∷ []
