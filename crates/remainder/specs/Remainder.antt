-- The remainder of a polynomial by a generator (document 01, "The block" and "Scale words").
-- A generator x^n + .. is given by its n coefficients below the leading one, which is 1; n is its degree.
--     take_off g p       p less its leading coefficient times the generator: one place shorter
--     step g r b        a step of the long division: b is brought down behind the remainder so far, and the generator taken off
--     divide g r w      the steps for each coefficient of w, the highest power first, with r as the remainder so far
--     remainder g w     the remainder of w
--     check_bits g w     the remainder of w times x^n
--     remainder_number n generator w, check_number n generator w
--                       the same as numbers, by the generator whose coefficients are the n low binary digits of a number;
--                       0 where n is above 31, the longest that the code's register takes
use Rattle.std.specs.Prelude.{cond, List, [], ◌∷◌, ◌++◌, ℕ, leb, length}
use Rattle.bits.specs.Digits.{value, digits}
use Rattle.remainder.specs.Polynomial.{◌⊕◌, zeros, times}

unfoldable pub take_off : List ℕ → List ℕ → List ℕ
take_off g [] = []
take_off g (x ∷ p) = p ⊕ times x g

unfoldable pub step : List ℕ → List ℕ → ℕ → List ℕ
step g r b = take_off g (r ++ (b ∷ []))

unfoldable pub divide : List ℕ → List ℕ → List ℕ → List ℕ
divide g r [] = r
divide g r (b ∷ w) = divide g (step g r b) w

unfoldable pub remainder : List ℕ → List ℕ → List ℕ
remainder g w = divide g (zeros (length g)) w

unfoldable pub check_bits : List ℕ → List ℕ → List ℕ
check_bits g w = remainder g (w ++ zeros (length g))

unfoldable pub remainder_number : ℕ → ℕ → List ℕ → ℕ
remainder_number n generator w = cond (leb n 31) (value 2 (remainder (digits 2 n generator) w)) 0

unfoldable pub check_number : ℕ → ℕ → List ℕ → ℕ
check_number n generator w = cond (leb n 31) (value 2 (check_bits (digits 2 n generator) w)) 0
