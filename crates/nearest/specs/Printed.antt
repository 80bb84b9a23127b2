-- What the documents print of reading scale words (document 01, "Scale words", "Numbers given"; document 02, P4; the word of factors 0, 1 is a bench case).
--     times3 text       a printed word sent three times
--     heard bits        what 42 bits read as: the number, and the two factors and the number of places
--     behind w text     what 64 extra bits read as, 42 bits and a printed information word: the number, the factors, the places, the word
--     printed_rows       THE TABLE: wrong bits, a tie, the information word, refusals
use Rattle.std.specs.Prelude.{List, [], ◌∷◌, ◌++◌, ℕ}
use Prim.Native.String.{String}
use Rattle.bits.specs.Printed.{row, answered, Row, ◌prints◌}
use Rattle.nearest.specs.Reading.{scale_answer}
use Rattle.nearest.specs.Extra.{extra_answer, listed}

abbrev pub times3 : String → List ℕ
times3 text = row text ++ (row text ++ row text)

abbrev pub heard : List ℕ → List ℕ
heard bits = answered (scale_answer bits)

abbrev pub behind : List ℕ → String → List ℕ
behind words text = listed (extra_answer (words ++ row text))

unfoldable pub printed_rows : List Row
printed_rows =
    (heard (times3 "00000111010001") prints 0 ∷ 0 ∷ 1 ∷ 0 ∷ [])
    -- six wrong bits, two at each of three places: document 02's own case
    ∷ (heard (row "11010111010001" ++ (row "00000111010001" ++ row "11010111010001")) prints 0 ∷ 0 ∷ 1 ∷ 6 ∷ [])
    -- of the three copies one has all its bits wrong
    ∷ (heard (row "11111000101110" ++ (row "00000111010001" ++ row "00000111010001")) prints 0 ∷ 0 ∷ 1 ∷ 14 ∷ [])
    -- nine places from the words of factors 0, 1 and of 6, 5
    ∷ (heard (times3 "11010111010001") prints 5 ∷ [])
    -- the 14 bits behind the first 1 of the longer code's word for 1000000, which is none of the 64: twelve places from several of these
    ∷ (heard (times3 "00000011101000") prints 5 ∷ [])
    -- an entry that is no bit, and 2 goes before 5
    ∷ (heard (times3 "00000111010002") prints 2 ∷ [])
    ∷ (heard (times3 "11010111010002") prints 2 ∷ [])
    -- bits 43 to 64, the first of them the highest; the word comes with number 5 too
    ∷ (behind (times3 "00000111010001") "0000000000000000000001" prints 0 ∷ 0 ∷ 1 ∷ 0 ∷ 1 ∷ [])
    ∷ (behind (times3 "00000111010001") "1000000000000000000000" prints 0 ∷ 0 ∷ 1 ∷ 0 ∷ 2_097_152 ∷ [])
    ∷ (behind (times3 "11010111010001") "1111111111111111111111" prints 5 ∷ 0 ∷ 0 ∷ 0 ∷ 4_194_303 ∷ [])
    ∷ (behind (times3 "00000111010001") "1111111111111111111112" prints 2 ∷ 0 ∷ 0 ∷ 0 ∷ 0 ∷ [])
    ∷ []
