-- What document 01 prints of a block taken apart ("The block", "Numbers given").
--     listed a          the number of an answer and its two extra bits; what does not come is 0
--     apart block       the number that taking a block apart gives, and its two extra bits
--     printed_rows       THE TABLE: the last two of 77 bits are the extra bits; an entry that is no bit
use Rattle.std.specs.Prelude.{List, [], ◌∷◌, ◌++◌, ℕ}
use Rattle.std.specs.declared.result.Result.{Result}
use Rattle.std.specs.declared.result.Result.TheVariants.{Ok, Err}
use Rattle.bits.specs.declared.refusal.Refusal.{Refusal}
use Rattle.bits.specs.Refused.{number_of}
use Rattle.bits.specs.Table.{zeros}
use Rattle.bits.specs.Printed.{Row, ◌prints◌}
use Rattle.block_codes.specs.Codes.{codes_of}
use Rattle.block_codes.specs.declared.BlockCodes.{BlockCodes}

abbrev pub listed : Result BlockCodes Refusal → List ℕ
listed (Ok x) = 0 ∷ x.extra
listed (Err r) = number_of r ∷ zeros 2

abbrev pub apart : List ℕ → List ℕ
apart block = listed (codes_of block)

unfoldable pub printed_rows : List Row
printed_rows = (apart (zeros 75 ++ (1 ∷ 0 ∷ [])) prints 0 ∷ 1 ∷ 0 ∷ []) ∷ (apart (zeros 76 ++ (2 ∷ [])) prints 2 ∷ 0 ∷ 0 ∷ []) ∷ []
