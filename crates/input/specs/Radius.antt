-- The radius that a program is told to read at.
--     radius_of argument     by the letters of an argument: 2 or 3, and none for anything else
--     SomeRadius r          r is that of some argument, or the ordinary one: which arguments there are comes from outside
use Rattle.std.specs.Prelude.{ℕ, ◌≡◌, cond, List, eqb, length, get_or, Option, Some, None}
use Rattle.reading.specs.Reading.{ordinary}

unfoldable pub radius_of : List ℕ → Option ℕ
radius_of argument = cond (eqb (length argument) 1) (cond (eqb (get_or argument 0 0) 50) (Some 2) (cond (eqb (get_or argument 0 0) 51) (Some 3) None)) None

pub data SomeRadius (r : Option ℕ) : Type 0 where
  said : (argument : List ℕ) → r ≡ radius_of argument → SomeRadius r
  unsaid : r ≡ Some ordinary → SomeRadius r
