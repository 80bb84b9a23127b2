-- The sync behind the six bytes at a position (document 01, "Service groups").
--     sync1, sync2        the two syncs
--     agree xs ys         whether two lists agree in every bit
--     kind_of sync         which of the two it is, or neither
--     is_open p            a group is open behind position p: it has begun and is not complete
--     next_position k p    the position of the next six bytes
--     drops_with k p       whether the open group or the sync itself is dropped
--     number_of k          number 7 where it is neither
use Rattle.std.specs.Prelude.{ℕ, ◌+◌, Bool, true, false, cond, not, List, [], ◌∷◌, eqb, ltb}
use Rattle.service_sync.specs.declared.Kind.{Kind}
use Rattle.service_sync.specs.declared.Kind.TheVariants.{First, Second, Neither}

abbrev pub sync1 : List ℕ
sync1 = 0 ∷ 0 ∷ 0 ∷ 0 ∷ 0 ∷ 1 ∷ 0 ∷ 1 ∷ 1 ∷ 1 ∷ 0 ∷ 0 ∷ 1 ∷ 1 ∷ 1 ∷ 1 ∷ []

abbrev pub sync2 : List ℕ
sync2 = 0 ∷ 0 ∷ 0 ∷ 0 ∷ 0 ∷ 1 ∷ 0 ∷ 1 ∷ 1 ∷ 1 ∷ 1 ∷ 1 ∷ 1 ∷ 1 ∷ 1 ∷ 1 ∷ []

unfoldable pub agree : List ℕ → List ℕ → Bool
agree [] [] = true
agree [] (y ∷ ys) = false
agree (x ∷ xs) [] = false
agree (x ∷ xs) (y ∷ ys) = cond (eqb x y) (agree xs ys) false

unfoldable pub kind_of : List ℕ → Kind
kind_of sync = cond (agree sync sync1) First (cond (agree sync sync2) Second Neither)

unfoldable pub is_open : ℕ → Bool
is_open p = cond (ltb 0 p) (ltb p 8) false

-- Sync 1 starts a group, Sync 2 continues the open one
abbrev pub next_position : Kind → ℕ → ℕ
next_position First p = 1
next_position Second p = cond (is_open p) (p + 1) 0
next_position Neither p = 0

-- a new Sync 1 before position 8 drops the open group; a Sync 2 with no group open, or after position 8, is dropped; one that is neither drops
abbrev pub drops_with : Kind → ℕ → Bool
drops_with First p = is_open p
drops_with Second p = not (is_open p)
drops_with Neither p = true

abbrev pub number_of : Kind → ℕ
number_of First = 0
number_of Second = 0
number_of Neither = 7
