-- What a remainder is, in the words of a school book: the polynomial is a multiple of the generator and the remainder, and the remainder has
-- a lower degree than the generator.
--     product g q       q times the generator, with as many coefficients as q and g together
--     Divided g w q r   w, with zeros in front, is q times the generator and r; r has as many coefficients as the degree, each 0 or 1
use Rattle.std.specs.Prelude.{◌≡◌, List, [], ◌∷◌, ◌++◌, ℕ, length}
use Rattle.bits.specs.Digits.{Below}
use Rattle.remainder.specs.Polynomial.{◌⊕◌, zeros, times}

-- the generator itself has the coefficients 1 ∷ g
unfoldable pub product : List ℕ → List ℕ → List ℕ
product g [] = zeros (length g)
product g (x ∷ q) = (times x (1 ∷ g) ++ zeros (length q)) ⊕ (0 ∷ product g q)

pub record Divided (g w q r : List ℕ) : Type 0 where
  pub quotient-size : length q ≡ length w
  pub quotient-bits : Below 2 q
  pub size : length r ≡ length g
  pub bits : Below 2 r
  pub whole : zeros (length g) ++ w ≡ product g q ⊕ (zeros (length w) ++ r)
