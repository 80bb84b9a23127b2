-- What document 01 prints of writing a main frame ("Main frame", "Numbers given").
--     nought, odd               77 bits, all 0; 77 entries of which the last is no bit
--     silent                    four blocks of zeros
--     writing size s blocks     the number that writing gives
--     printed_rows               THE TABLE: frames by their bytes, B's service bit written 0; refusals in their order
use Rattle.std.specs.Prelude.{List, [], ◌∷◌, ◌++◌, ℕ, replicate}
use Rattle.bits.specs.Table.{zeros}
use Rattle.bits.specs.Printed.{hex, Row, ◌prints◌}
use Rattle.frame.specs.Frame.{frame_bytes}
use Rattle.frame.specs.declared.Letter.TheVariants.{A, B}
use Rattle.frame_writer.specs.Write.{write_number}

abbrev pub nought : List ℕ
nought = zeros 77

abbrev pub odd : List ℕ
odd = zeros 76 ++ (2 ∷ [])

abbrev pub silent : List (List ℕ)
silent = nought ∷ nought ∷ nought ∷ nought ∷ []

abbrev pub writing : ℕ → ℕ → List (List ℕ) → List ℕ
writing size s blocks = write_number size s blocks ∷ []

unfoldable pub printed_rows : List Row
printed_rows =
    (frame_bytes A 0 silent prints hex "E2 40" ++ zeros 38)
    ∷ (frame_bytes A 1 silent prints hex "E2 50" ++ zeros 38)
    ∷ (frame_bytes B 1 silent prints hex "1D A0" ++ zeros 38)
    -- bit 13 is block 1 bit 1, bit 14 block 2 bit 1; from bit 167 on block 3 and block 4
    ∷ (frame_bytes A 0 (replicate 77 1 ∷ nought ∷ nought ∷ replicate 77 1 ∷ []) prints hex "E2 4A" ++ (replicate 18 170 ++ (hex "A9" ++ replicate 19 85)))
    ∷ (writing 40 1 silent prints 0 ∷ [])
    ∷ (writing 39 1 silent prints 1 ∷ [])
    ∷ (writing 41 1 silent prints 1 ∷ [])
    ∷ (writing 40 2 silent prints 2 ∷ [])
    ∷ (writing 40 1 (nought ∷ nought ∷ nought ∷ odd ∷ []) prints 2 ∷ [])
    -- 1 goes before 2
    ∷ (writing 39 2 silent prints 1 ∷ [])
    ∷ []
