-- The generators' coefficients, written out, and as the binary digits of the code's number.
--     block-coefficients    those of the block's generator, written out
--     scale-number          the number of the code has these digits
-- Assumes nothing.
use mathlib.Core.Path.{◌≡◌, refl}
use mathlib.Core.List.{[], ◌∷◌}
use Rattle.bits.specs.Digits.{digits}
use Rattle.remainder.specs.Polynomial.{◌⊕◌}
use Rattle.code.specs.Generators.{power, powers, block_generator, scale_generator}

-- for what computes with them: a definition is computed anew at each use
pub block-coefficients : 0 ∷ 0 ∷ 0 ∷ 1 ∷ 0 ∷ 0 ∷ 0 ∷ 0 ∷ 1 ∷ 1 ∷ 1 ∷ 0 ∷ 1 ∷ 0 ∷ 1 ∷ 0 ∷ 0 ∷ 0 ∷ 1 ∷ [] ≡ block_generator
unfolding block_generator powers power ◌⊕◌
block-coefficients = refl

pub scale-number : digits 2 8 0b1101_0001 ≡ scale_generator
unfolding digits scale_generator powers power ◌⊕◌
scale-number = refl
