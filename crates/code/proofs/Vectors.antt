-- Document 01's bench cases of check bits.
--     none, bit-44, bit-43       44 zeros; only sound bit 44 set; only sound bit 43
--     factors-01, factors-02     the six bits of factors 0, 1 and of 0, 2
-- Assumes nothing.
use mathlib.Core.Path.{◌≡◌, refl}
use mathlib.Core.List.{[], ◌∷◌, ◌++◌}
use Rattle.remainder.specs.Polynomial.{◌⊕◌, zeros, times}
use Rattle.remainder.specs.Remainder.{take_off, step, divide, remainder, check_bits}
use Rattle.code.specs.Generators.{power, powers, block_generator, scale_generator}

-- 44 zeros
pub none : check_bits block_generator (zeros 44) ≡ zeros 19
unfolding check_bits remainder divide step take_off times ◌⊕◌ power powers block_generator
none = refl

-- only sound bit 44 set: 0001000011101010001
pub bit-44 : check_bits block_generator (zeros 43 ++ (1 ∷ [])) ≡ 0 ∷ 0 ∷ 0 ∷ 1 ∷ 0 ∷ 0 ∷ 0 ∷ 0 ∷ 1 ∷ 1 ∷ 1 ∷ 0 ∷ 1 ∷ 0 ∷ 1 ∷ 0 ∷ 0 ∷ 0 ∷ 1 ∷ []
unfolding check_bits remainder divide step take_off times ◌⊕◌ power powers block_generator
bit-44 = refl

-- only sound bit 43 set: 0010000111010100010
pub bit-43 : check_bits block_generator (zeros 42 ++ (1 ∷ 0 ∷ [])) ≡ 0 ∷ 0 ∷ 1 ∷ 0 ∷ 0 ∷ 0 ∷ 0 ∷ 1 ∷ 1 ∷ 1 ∷ 0 ∷ 1 ∷ 0 ∷ 1 ∷ 0 ∷ 0 ∷ 0 ∷ 1 ∷ 0 ∷ []
unfolding check_bits remainder divide step take_off times ◌⊕◌ power powers block_generator
bit-43 = refl

-- factors 0 and 1: 000001 and 11010001; factors 0 and 2: 000010 and 01110011
pub factors-01 : check_bits scale_generator (0 ∷ 0 ∷ 0 ∷ 0 ∷ 0 ∷ 1 ∷ []) ≡ 1 ∷ 1 ∷ 0 ∷ 1 ∷ 0 ∷ 0 ∷ 0 ∷ 1 ∷ []
unfolding check_bits remainder divide step take_off times ◌⊕◌ power powers scale_generator
factors-01 = refl

pub factors-02 : check_bits scale_generator (0 ∷ 0 ∷ 0 ∷ 0 ∷ 1 ∷ 0 ∷ []) ≡ 0 ∷ 1 ∷ 1 ∷ 1 ∷ 0 ∷ 0 ∷ 1 ∷ 1 ∷ []
unfolding check_bits remainder divide step take_off times ◌⊕◌ power powers scale_generator
factors-02 = refl
