-- Polynomials over the bits 0 and 1, as lists of their coefficients, the highest power first.
--     p ⊕ q             the sum of two polynomials written with equally many coefficients
--     zeros n           n coefficients 0
--     times x p         p times the coefficient x
-- Of a coefficient that is neither 0 nor 1 its lowest binary digit counts: a sum is taken modulo 2.
use Rattle.std.specs.Prelude.{List, [], ◌∷◌, ℕ, ◌+◌, ◌*◌, ◌%◌}
pub use Rattle.bits.specs.Table.{zeros}

infixl 60 ◌⊕◌
unfoldable pub ◌⊕◌ : List ℕ → List ℕ → List ℕ
[] ⊕ q = []
(x ∷ p) ⊕ [] = []
(x ∷ p) ⊕ (y ∷ q) = (x + y) % 2 ∷ (p ⊕ q)

unfoldable pub times : ℕ → List ℕ → List ℕ
times x [] = []
times x (y ∷ p) = x * y ∷ times x p
