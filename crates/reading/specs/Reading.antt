-- What reading the 63 protected bits of a block answers, within a radius (document 01, "The block"; the mission's second demand).
-- The ordinary radius is 2; document 02, P9, has a second, 3. A set of places is a mask of 63 bits, with ones at those places; its number is the count of its ones.
--     Reading: clean, mended n c, bad    mended says how many places were turned, and what the word became
--     Reads radius w r          THE DEMAND: r is what reading w answers
--     handed w r                the 63 bits handed on: a bad word as it was received
--     turned n c                the reading of a word n places from the code word c: clean at 0, mended above
--     ordinary, is_radius r      the ordinary radius; whether a caller may choose r
--     OtherRadius r             "a radius other than two or three"
--     largest_radius             up to this radius the reading is fixed: two words so near to one would be nearer than 8 to each other
use Rattle.std.specs.Prelude.{◌≡◌, Bool, true, cond, ◌≢◌, List, ℕ, zero, suc, ◌≤◌, ◌<◌, eqb}
use Rattle.code.specs.Words.{CodeWord, distance}

pub data Reading : Type 0 where
  clean : Reading
  mended : ℕ → List ℕ → Reading
  bad : Reading

unfoldable pub Reads : ℕ → List ℕ → Reading → Type 0
Reads radius w clean = CodeWord w
Reads radius w (mended n c) = CodeWord c × (distance c w ≡ n) × (0 < n) × (n ≤ radius)
Reads radius w bad = (c : List ℕ) → CodeWord c → radius < distance c w

unfoldable pub handed : List ℕ → Reading → List ℕ
handed w clean = w
handed w (mended n c) = c
handed w bad = w

unfoldable pub turned : ℕ → List ℕ → Reading
turned zero c = clean
turned (suc n) c = mended (suc n) c

abbrev pub ordinary : ℕ
ordinary = 2

unfoldable pub is_radius : ℕ → Bool
is_radius r = cond (eqb r ordinary) true (eqb r 3)

pub record OtherRadius (r : ℕ) : Type 0 where
  pub not-two : r ≢ 2
  pub not_three : r ≢ 3

abbrev pub largest_radius : ℕ
largest_radius = 3
