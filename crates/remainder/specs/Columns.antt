-- What each place of a word adds to its remainder. Place k of a word of n bits, counted from 0, is the coefficient of x^(n - 1 - k).
--     column g p        the remainder of x^p
--     columns g n       a column for each place of n bits, the first place first: those of x^(n - 1), .., x^0
use Rattle.std.specs.Prelude.{List, [], ◌∷◌, ℕ, zero, suc}
use Rattle.remainder.specs.Polynomial.{zeros}
use Rattle.remainder.specs.Remainder.{remainder}

unfoldable pub column : List ℕ → ℕ → List ℕ
column g p = remainder g (1 ∷ zeros p)

unfoldable pub columns : List ℕ → ℕ → List (List ℕ)
columns g zero = []
columns g (suc n) = column g n ∷ columns g n
