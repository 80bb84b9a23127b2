-- The two generators of document 01, each as its coefficients below the leading one.
--     power n p         x^p as n coefficients, for p below n
--     powers n ps       the sum of these over ps
--     block_generator    that of the 63 protected bits of a block ("The block")
--     scale_generator    that of the 14 bits of a scale word ("Scale words")
use Rattle.std.specs.Prelude.{List, [], ◌∷◌, ◌++◌, ℕ, ◌-◌}
use Rattle.remainder.specs.Polynomial.{◌⊕◌, zeros}

unfoldable pub power : ℕ → ℕ → List ℕ
power n p = zeros (n - 1 - p) ++ (1 ∷ zeros p)

unfoldable pub powers : ℕ → List ℕ → List ℕ
powers n [] = zeros n
powers n (p ∷ ps) = power n p ⊕ powers n ps

-- x^19 + x^15 + x^10 + x^9 + x^8 + x^6 + x^4 + 1
unfoldable pub block_generator : List ℕ
block_generator = powers 19 (15 ∷ 10 ∷ 9 ∷ 8 ∷ 6 ∷ 4 ∷ 0 ∷ [])

-- x^8 + x^7 + x^6 + x^4 + 1
unfoldable pub scale_generator : List ℕ
scale_generator = powers 8 (7 ∷ 6 ∷ 4 ∷ 0 ∷ [])
