-- What document 01 prints of the header and of runs ("Reel file and listing", "Numbers given").
--     header text       what reading a header answers whose bytes are printed: the number; the count and the offset
--     silence n         n bytes, all 0
--     counted n         what counting n bytes answers: the number, and how many superframes they are
--     asked n k         the number that asking for superframe k of n bytes gives
--     printed_rows       THE TABLE: four big-endian 32-bit numbers and their limits; runs; refusals in their order
use Rattle.std.specs.Prelude.{List, [], ◌∷◌, ℕ, replicate}
use Prim.Native.String.{String}
use Rattle.bits.specs.Printed.{hex, answered, Row, ◌prints◌}
use Rattle.reel.specs.Header.{header_of}
use Rattle.reel.specs.Run.{run_of, part_number}

abbrev pub header : String → List ℕ
header text = answered (header_of (hex text))

abbrev pub silence : ℕ → List ℕ
silence n = replicate n 0

abbrev pub counted : ℕ → List ℕ
counted n = answered (run_of (silence n))

abbrev pub asked : ℕ → ℕ → List ℕ
asked n k = part_number (silence n) k ∷ []

unfoldable pub printed_rows : List Row
printed_rows =
    -- at most 1,000,000, which is F4240; at least 16, which is 10; both 0
    (header "000F4240 00000010 00000000 00000000" prints 0 ∷ 1_000_000 ∷ 16 ∷ [])
    ∷ (header "000F4241 00000010 00000000 00000000" prints 8 ∷ [])
    ∷ (header "01000000 00000010 00000000 00000000" prints 8 ∷ [])
    ∷ (header "00000000 0000000F 00000000 00000000" prints 8 ∷ [])
    ∷ (header "00000002 01020304 00000000 00000000" prints 0 ∷ 2 ∷ 16_909_060 ∷ [])
    ∷ (header "00000002 00000010 00000001 00000000" prints 8 ∷ [])
    ∷ (header "00000002 00000010 00000000 00000001" prints 8 ∷ [])
    ∷ (header "00000002 00000010 00000000 000000" prints 8 ∷ [])
    ∷ (header "00000002 00000010 00000000 00000000 FF" prints 0 ∷ 2 ∷ 16 ∷ [])
    ∷ (counted 0 prints 0 ∷ 0 ∷ [])
    ∷ (counted 5_119 prints 1 ∷ [])
    ∷ (counted 5_120 prints 0 ∷ 1 ∷ [])
    ∷ (asked 5_120 1 prints 0 ∷ [])
    ∷ (asked 5_120 0 prints 2 ∷ [])
    ∷ (asked 5_120 2 prints 2 ∷ [])
    -- 1 goes before 2
    ∷ (asked 5_119 0 prints 1 ∷ [])
    ∷ []
