-- What document 01 prints of the two syncs ("Service groups", "Numbers given").
--     behind p text     the number that a printed sync behind the six bytes at position p gives, and the position of the next six bytes
--     printed_rows       THE TABLE
use Rattle.std.specs.Prelude.{List, [], ◌∷◌, ℕ}
use Prim.Native.String.{String}
use Rattle.bits.specs.Printed.{row, Row, ◌prints◌}
use Rattle.service_sync.specs.Sync.{kind_of, next_position, number_of}

abbrev pub behind : ℕ → String → List ℕ
behind p text = number_of (kind_of (row text)) ∷ next_position (kind_of (row text)) p ∷ []

unfoldable pub printed_rows : List Row
printed_rows =
    -- Sync 1 starts a group at position 1
    (behind 0 "0000010111001111" prints 0 ∷ 1 ∷ [])
    ∷ (behind 3 "0000010111001111" prints 0 ∷ 1 ∷ [])
    ∷ (behind 8 "0000010111001111" prints 0 ∷ 1 ∷ [])
    -- Sync 2 continues positions 2 to 8
    ∷ (behind 0 "0000010111111111" prints 0 ∷ 0 ∷ [])
    ∷ (behind 1 "0000010111111111" prints 0 ∷ 2 ∷ [])
    ∷ (behind 7 "0000010111111111" prints 0 ∷ 8 ∷ [])
    ∷ (behind 8 "0000010111111111" prints 0 ∷ 0 ∷ [])
    -- neither of the two
    ∷ (behind 3 "0000010111001110" prints 7 ∷ 0 ∷ [])
    ∷ (behind 3 "1000010111001111" prints 7 ∷ 0 ∷ [])
    ∷ (behind 3 "0000010111101111" prints 7 ∷ 0 ∷ [])
    ∷ (behind 3 "000001011100111" prints 7 ∷ 0 ∷ [])
    ∷ []
