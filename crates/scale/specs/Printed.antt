-- What document 01 prints of writing scale words ("Numbers given"; the word of factors 0, 1 is a bench case).
--     written l r       what writing factors answers: the number, and the 14 bits, 0 where none come
--     printed_rows       THE TABLE: a word, and factors over 7
use Rattle.std.specs.Prelude.{List, [], ◌∷◌, ℕ}
use Rattle.bits.specs.Printed.{row, Row, ◌prints◌}
use Rattle.std.specs.declared.result.Result.{Result}
use Rattle.std.specs.declared.result.Result.TheVariants.{Ok, Err}
use Rattle.bits.specs.Table.{zeros}
use Rattle.bits.specs.Refused.{number_of}
use Rattle.bits.specs.declared.refusal.Refusal.{Refusal}
use Rattle.scale.specs.Word.{written_scale}

abbrev bits_told : Result (List ℕ) Refusal → List ℕ
bits_told (Ok bits) = 0 ∷ bits
bits_told (Err r) = number_of r ∷ zeros 14

abbrev pub written : ℕ → ℕ → List ℕ
written l r = bits_told (written_scale l r)

unfoldable pub printed_rows : List Row
printed_rows =
    (written 0 1 prints 0 ∷ row "00000111010001")
    ∷ (written 8 0 prints 2 ∷ row "00000000000000")
    ∷ (written 0 8 prints 2 ∷ row "00000000000000")
    ∷ []
