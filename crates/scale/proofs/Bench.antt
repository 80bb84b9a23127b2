-- Document 01's cases of scale words ("Bench cases"), proved of the definitions by computing.
--     factors-01, factors-02         factors 0, 1 and 0, 2
-- Assumes nothing.
use mathlib.Core.Path.{◌≡◌, refl}
use mathlib.Core.List.{[], ◌∷◌}
use Rattle.bits.specs.Digits.{digits}
use Rattle.remainder.specs.Polynomial.{◌⊕◌, times}
use Rattle.remainder.specs.Remainder.{take_off, step, divide, remainder, check_bits}
use Rattle.code.specs.Generators.{power, powers, scale_generator}
use Rattle.code.specs.Words.{encode}
use Rattle.scale.specs.Word.{scale_word}

pub factors-01 : scale_word 0 1 ≡ 0 ∷ 0 ∷ 0 ∷ 0 ∷ 0 ∷ 1 ∷ 1 ∷ 1 ∷ 0 ∷ 1 ∷ 0 ∷ 0 ∷ 0 ∷ 1 ∷ []
unfolding scale_word digits encode check_bits remainder divide step take_off times ◌⊕◌ power powers scale_generator
factors-01 = refl

pub factors-02 : scale_word 0 2 ≡ 0 ∷ 0 ∷ 0 ∷ 0 ∷ 1 ∷ 0 ∷ 0 ∷ 1 ∷ 1 ∷ 1 ∷ 0 ∷ 0 ∷ 1 ∷ 1 ∷ []
unfolding scale_word digits encode check_bits remainder divide step take_off times ◌⊕◌ power powers scale_generator
factors-02 = refl
