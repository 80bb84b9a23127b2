-- What document 01 prints of main frames ("Main frame", "Numbers given").
--     rest n            n bytes behind the first two, all 0
--     heard l bytes     the number that reading a frame of letter l gives, how many bits of its sync are wrong, and its service bit; a refusal has neither
--     printed_rows       THE TABLE: the two sync words; frames by their first two bytes; refusals in their order
use Rattle.std.specs.Prelude.{List, [], ◌∷◌, ◌++◌, ℕ, replicate}
use Rattle.std.specs.declared.result.Result.{Result}
use Rattle.std.specs.declared.result.Result.TheVariants.{Ok, Err}
use Rattle.bits.specs.Refused.{number_of}
use Rattle.bits.specs.declared.refusal.Refusal.{Refusal}
use Rattle.bits.specs.Printed.{row, hex, Row, ◌prints◌}
use Rattle.frame.specs.Frame.{sync_word}
use Rattle.frame.specs.Read.{read_frame}
use Rattle.frame.specs.declared.FrameRead.{FrameRead}
use Rattle.frame.specs.declared.Letter.{Letter}
use Rattle.frame.specs.declared.Letter.TheVariants.{A, B}

abbrev pub rest : ℕ → List ℕ
rest n = replicate n 0

abbrev pub heard_of : Result FrameRead Refusal → List ℕ
heard_of (Ok r) = 0 ∷ r.wrong ∷ r.service ∷ []
heard_of (Err e) = number_of e ∷ 0 ∷ 0 ∷ []

abbrev pub heard : Letter → List ℕ → List ℕ
heard letter bytes = heard_of (read_frame letter bytes)

unfoldable pub printed_rows : List Row
printed_rows =
    (sync_word A prints row "11100010010")
    ∷ (sync_word B prints row "00011101101")
    -- 1110 0010 010 and 0001 1101 101, then the service bit: in B it is ignored on reading
    ∷ (heard A (hex "E2 40" ++ rest 38) prints 0 ∷ 0 ∷ 0 ∷ [])
    ∷ (heard A (hex "E2 50" ++ rest 38) prints 0 ∷ 0 ∷ 1 ∷ [])
    ∷ (heard B (hex "1D A0" ++ rest 38) prints 0 ∷ 0 ∷ 0 ∷ [])
    ∷ (heard B (hex "1D B0" ++ rest 38) prints 0 ∷ 0 ∷ 0 ∷ [])
    -- document 02, P1: the first bit of the sync wrong, the first and the last, and one more; the other letter's sync
    ∷ (heard A (hex "62 50" ++ rest 38) prints 0 ∷ 1 ∷ 1 ∷ [])
    ∷ (heard A (hex "62 70" ++ rest 38) prints 0 ∷ 2 ∷ 1 ∷ [])
    ∷ (heard A (hex "22 70" ++ rest 38) prints 3 ∷ 0 ∷ 0 ∷ [])
    ∷ (heard B (hex "9D 90" ++ rest 38) prints 0 ∷ 2 ∷ 0 ∷ [])
    ∷ (heard B (hex "DD 90" ++ rest 38) prints 3 ∷ 0 ∷ 0 ∷ [])
    ∷ (heard B (hex "E2 40" ++ rest 38) prints 3 ∷ 0 ∷ 0 ∷ [])
    -- 40 bytes, and 1 goes before 3
    ∷ (heard A (hex "E2 50" ++ rest 37) prints 1 ∷ 0 ∷ 0 ∷ [])
    ∷ (heard A (hex "E2 50" ++ rest 39) prints 1 ∷ 0 ∷ 0 ∷ [])
    ∷ (heard A (hex "22 70" ++ rest 37) prints 1 ∷ 0 ∷ 0 ∷ [])
    ∷ []
