-- What document 01 prints of programme bytes and names ("Service groups", "Numbers given").
--     named t           what looking type t up answers: the number, and the letters by their codes, 0 where none come
--     heard text        what reading the byte answers whose bits are printed: the number; type, music and mode
--     printed_rows       THE TABLE: the sixteen names, padded with spaces to eight characters; bytes; refusals
use Rattle.std.specs.Prelude.{List, [], ◌∷◌, ℕ}
use Prim.Native.String.{String}
use Rattle.bits.specs.Digits.{value}
use Rattle.bits.specs.Printed.{row, hex, answered, Row, ◌prints◌}
use Rattle.std.specs.declared.result.Result.{Result}
use Rattle.std.specs.declared.result.Result.TheVariants.{Ok, Err}
use Rattle.bits.specs.Table.{zeros}
use Rattle.bits.specs.Refused.{number_of}
use Rattle.bits.specs.declared.refusal.Refusal.{Refusal}
use Rattle.programme.specs.Byte.{read_byte, write_byte}
use Rattle.programme.specs.Names.{name_for}

abbrev letters_told : Result (List ℕ) Refusal → List ℕ
letters_told (Ok letters) = 0 ∷ letters
letters_told (Err r) = number_of r ∷ zeros 8

abbrev pub named : ℕ → List ℕ
named t = letters_told (name_for t)

abbrev pub heard : String → List ℕ
heard text = answered (read_byte (value 2 (row text)))

unfoldable pub printed_rows : List Row
printed_rows =
    (named 0 prints 0 ∷ hex "4B 45 49 4E 45 20 20 20")  -- KEINE
    ∷ (named 1 prints 0 ∷ hex "4E 41 43 48 52 49 43 48")  -- NACHRICH
    ∷ (named 2 prints 0 ∷ hex "50 4F 4C 49 54 49 4B 20")  -- POLITIK
    ∷ (named 3 prints 0 ∷ hex "53 50 45 5A 57 4F 52 54")  -- SPEZWORT
    ∷ (named 4 prints 0 ∷ hex "53 50 4F 52 54 20 20 20")  -- SPORT
    ∷ (named 5 prints 0 ∷ hex "4C 45 52 4E 45 4E 20 20")  -- LERNEN
    ∷ (named 6 prints 0 ∷ hex "48 4F 45 52 2B 4C 49 54")  -- HOER+LIT
    ∷ (named 7 prints 0 ∷ hex "4B 55 4C 54 55 52 20 20")  -- KULTUR
    ∷ (named 8 prints 0 ∷ hex "57 49 53 53 45 4E 20 20")  -- WISSEN
    ∷ (named 9 prints 0 ∷ hex "55 4E 54 45 52 48 41 4C")  -- UNTERHAL
    ∷ (named 10 prints 0 ∷ hex "50 4F 50 20 20 20 20 20")  -- POP
    ∷ (named 11 prints 0 ∷ hex "52 4F 43 4B 20 20 20 20")  -- ROCK
    ∷ (named 12 prints 0 ∷ hex "55 2D 4D 55 53 49 4B 20")  -- U-MUSIK
    ∷ (named 13 prints 0 ∷ hex "4C 2D 4B 4C 41 53 53 20")  -- L-KLASS
    ∷ (named 14 prints 0 ∷ hex "45 2D 4B 4C 41 53 53 20")  -- E-KLASS
    ∷ (named 15 prints 0 ∷ hex "53 50 45 5A 20 4D 55 53")  -- SPEZ MUS
    ∷ (named 16 prints 2 ∷ hex "00 00 00 00 00 00 00 00")
    ∷ (heard "10101010" prints 0 ∷ 10 ∷ 1 ∷ 1 ∷ [])
    -- mono is 01
    ∷ (heard "00000011" prints 0 ∷ 0 ∷ 0 ∷ 1 ∷ [])
    ∷ (heard "00010100" prints 0 ∷ 1 ∷ 0 ∷ 2 ∷ [])
    ∷ (heard "00010110" prints 6 ∷ [])
    ∷ (answered (write_byte 15 1 3) prints 0 ∷ hex "FF")
    ∷ (answered (write_byte 16 0 0) prints 2 ∷ [])
    ∷ (answered (write_byte 0 2 0) prints 2 ∷ [])
    ∷ (answered (write_byte 0 0 4) prints 2 ∷ [])
    ∷ []
