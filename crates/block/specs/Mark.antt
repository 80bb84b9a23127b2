-- The mark of a block (document 01, "Superframe"; document 02, P9).
--     mark_of r          that of reading r
--     kind_of r          what reading r counts as: 0 clean, 1 mended, with whatever number of places, 2 bad
--     counted_as m       the same by mark m: mark 4 counts as mended
--     MendedButThree r  a reading that is mended with another number than 3
--     Marked r m        "0 clean, 1 mended, 2 block bad", and "a block mended with 3 gives mark 4": mark m says so of reading r, and of no other
use Rattle.std.specs.Prelude.{ℕ, ◌≡◌, ◌≢◌, cond, eqb}
use Rattle.block.specs.Read.{Said, clean, mended, bad}

unfoldable pub mark_of : Said → ℕ
mark_of clean = 0
mark_of (mended n) = cond (eqb n 3) 4 1
mark_of bad = 2

unfoldable pub kind_of : Said → ℕ
kind_of clean = 0
kind_of (mended n) = 1
kind_of bad = 2

unfoldable pub counted_as : ℕ → ℕ
counted_as m = cond (eqb m 4) 1 m

pub record MendedButThree (r : Said) : Type 0 where
  pub places : ℕ
  pub is : r ≡ mended places
  pub not_three : places ≢ 3

pub record Marked (r : Said) (m : ℕ) : Type 0 where
  pub zero-clean : m ≡ 0 → r ≡ clean
  pub clean-zero : r ≡ clean → m ≡ 0
  pub one-mended : m ≡ 1 → MendedButThree r
  pub mended-one : MendedButThree r → m ≡ 1
  pub two-bad : m ≡ 2 → r ≡ bad
  pub bad-two : r ≡ bad → m ≡ 2
  pub four-three : m ≡ 4 → r ≡ mended 3
  pub three-four : r ≡ mended 3 → m ≡ 4
