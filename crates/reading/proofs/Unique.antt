-- Any two results that meet a promise are the same: for each public function, `FUNCTION-unique`. Assumes nothing.
use mathlib.Core.Path.{◌≡◌}
use mathlib.Core.Bool.{Bool}
use mathlib.Core.List.{List}
use Prim.Native.Nat.{ℕ}
use Rattle.bits.proofs.Unique.{same}
use Rattle.reading.specs.Reading.{is_radius}
use Rattle.reading.specs.Wrong.{column_numbers}

pub is-radius-unique : (radius : ℕ) (r r' : Bool) → r ≡ is_radius radius → r' ≡ is_radius radius → r ≡ r'
is-radius-unique radius r r' = same

pub columns-unique : (r r' : List ℕ) → r ≡ column_numbers → r' ≡ column_numbers → r ≡ r'
columns-unique r r' = same
