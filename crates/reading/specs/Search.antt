-- A reading that is computed: from the remainder of the word, by a search for few places that leave the same remainder.
--     seek k cs s       a mask with at most k ones, a bit for each of the columns cs, such that s and the columns at its ones add up to zero
--     ahead x o, or_else a b     what was found, with one place more in front; the first of two that was found
--     found w m         the reading of w where the search gives m: with those places turned, w is a code word
--     reading radius w  THE READING
use Rattle.std.specs.Prelude.{cond, List, [], ◌∷◌, ℕ, zero, suc, eqb, length}
use Rattle.std.proofs.Math.Option.{Option, none, some}
use Rattle.bits.specs.Bits.{ones}
use Rattle.remainder.specs.Polynomial.{◌⊕◌, zeros}
use Rattle.remainder.specs.Remainder.{remainder}
use Rattle.remainder.specs.Columns.{columns}
use Rattle.code.specs.Generators.{block_generator}
use Rattle.reading.specs.Reading.{Reading, bad, turned}

-- one place more in front of a mask
unfoldable pub ahead : ℕ → Option (List ℕ) → Option (List ℕ)
ahead x none = none
ahead x (some m) = some (x ∷ m)

unfoldable pub or_else : Option (List ℕ) → Option (List ℕ) → Option (List ℕ)
or_else none b = b
or_else (some m) b = some m

unfoldable pub seek : ℕ → List (List ℕ) → List ℕ → Option (List ℕ)
seek zero cs s = cond (eqb (ones s) 0) (some (zeros (length cs))) none
seek (suc k) [] s = cond (eqb (ones s) 0) (some []) none
seek (suc k) (c ∷ cs) s = or_else (ahead 0 (seek (suc k) cs s)) (ahead 1 (seek k cs (s ⊕ c)))

unfoldable pub found : List ℕ → Option (List ℕ) → Reading
found w none = bad
found w (some m) = turned (ones m) (w ⊕ m)

unfoldable pub reading : ℕ → List ℕ → Reading
reading radius w = found w (seek radius (columns block_generator 63) (remainder block_generator w))
