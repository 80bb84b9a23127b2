-- Which places are wrong, from the remainder of the word as a number.
--     places_from k m        the places of the ones of a mask whose first place is k
--     places_in m            the same, counted from 0, of a mask that was found
--     wrong_places radius r  the places, at most `radius` of the 63, that leave the remainder with the 19 low digits of r; none where there are no such
--     answer p              the same of an answer of the code, which looks for at most three
--     turn w i              the word with the bit at a place turned
--     read_as w p            the reading of w that an answer of the code makes
--     Within p              the places of an answer are among the 63, and in order
--     column_numbers         what each place alone leaves, as a number
use Rattle.std.specs.Prelude.{List, [], ◌∷◌, map, ℕ, zero, suc, ◌+◌, ◌%◌, ◌<◌, get_or, set}
use Rattle.std.proofs.Math.Option.{Option, none, some}
use Rattle.bits.specs.Digits.{value, digits}
use Rattle.remainder.specs.Columns.{columns}
use Rattle.code.specs.Generators.{block_generator}
use Rattle.reading.specs.Reading.{Reading, clean, mended, bad}
use Rattle.reading.specs.Search.{seek}
use Rattle.reading.specs.declared.Places.{Places}
use Rattle.reading.specs.declared.Places.TheVariants.{Zero, One, Two, Three, Nowhere}

unfoldable pub places_from : ℕ → List ℕ → List ℕ
places_from k [] = []
places_from k (zero ∷ m) = places_from (suc k) m
places_from k (suc x ∷ m) = k ∷ places_from (suc k) m

unfoldable pub places_in : Option (List ℕ) → Option (List ℕ)
places_in none = none
places_in (some m) = some (places_from 0 m)

unfoldable pub wrong_places : ℕ → ℕ → Option (List ℕ)
wrong_places radius r = places_in (seek radius (columns block_generator 63) (digits 2 19 r))

unfoldable pub answer : Places → Option (List ℕ)
answer Zero = some []
answer (One i) = some (i ∷ [])
answer (Two i j) = some (i ∷ j ∷ [])
answer (Three i j k) = some (i ∷ j ∷ k ∷ [])
answer Nowhere = none

unfoldable pub turn : List ℕ → ℕ → List ℕ
turn w i = set w i ((get_or w i 0 + 1) % 2)

unfoldable pub read_as : List ℕ → Places → Reading
read_as w Zero = clean
read_as w (One i) = mended 1 (turn w i)
read_as w (Two i j) = mended 2 (turn (turn w i) j)
read_as w (Three i j k) = mended 3 (turn (turn (turn w i) j) k)
read_as w Nowhere = bad

unfoldable pub Within : Places → Type 0
Within Zero = Unit {0}
Within (One i) = i < 63
Within (Two i j) = (i < j) × (j < 63)
Within (Three i j k) = (i < j) × (j < k) × (k < 63)
Within Nowhere = Unit {0}

unfoldable pub column_numbers : List ℕ
column_numbers = map (value 2) (columns block_generator 63)
