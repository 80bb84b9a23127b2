-- Document 01's bench cases of reading.
--     all_ones, three       63 ones, and ones in places 1, 2 and 3 only: bad
--     two-cleared           the word of sound bit 44 with its first two ones cleared: mended with 2
-- Assumes nothing.
use mathlib.Core.Path.{◌≡◌, refl}
use mathlib.Core.List.{[], ◌∷◌, ◌++◌}
use lib.ListN.{replicate}
use Rattle.bits.specs.Bits.{ones}
use Rattle.remainder.specs.Polynomial.{◌⊕◌, zeros, times}
use Rattle.remainder.specs.Remainder.{take_off, step, divide, remainder, check_bits}
use Rattle.remainder.specs.Columns.{column, columns}
use Rattle.code.specs.Generators.{power, powers, block_generator}
use Rattle.code.specs.Words.{encode}
use Rattle.reading.specs.Reading.{bad, mended, turned}
use Rattle.reading.specs.Search.{ahead, or_else, seek, found, reading}
use Rattle.reading.specs.Demand.{sent}

-- 63 ones
pub all_ones : reading 2 (replicate 63 1) ≡ bad
unfolding reading found seek ahead or_else turned ones columns column remainder divide step take_off times ◌⊕◌ power powers block_generator
all_ones = refl

-- ones in places 1, 2 and 3 only
pub three : reading 2 (1 ∷ 1 ∷ 1 ∷ zeros 60) ≡ bad
unfolding reading found seek ahead or_else turned ones columns column remainder divide step take_off times ◌⊕◌ power powers block_generator
three = refl

-- the word of sound bit 44 with the first two of its eight ones cleared
pub two-cleared : reading 2 (zeros 44 ++ (0 ∷ 0 ∷ 0 ∷ 0 ∷ 0 ∷ 0 ∷ 0 ∷ 0 ∷ 1 ∷ 1 ∷ 1 ∷ 0 ∷ 1 ∷ 0 ∷ 1 ∷ 0 ∷ 0 ∷ 0 ∷ 1 ∷ [])) ≡ mended 2 (sent (zeros 43 ++ (1 ∷ [])))
unfolding reading found seek ahead or_else turned ones columns column remainder check_bits encode divide step take_off times ◌⊕◌ power powers block_generator
two-cleared = refl
