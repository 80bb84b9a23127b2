-- Any two results that meet a promise are the same: for each public function, `FUNCTION-unique`. Assumes nothing.
use mathlib.Core.Path.{◌≡◌}
use mathlib.Core.List.{List}
use Prim.Native.Nat.{ℕ}
use Rattle.bits.proofs.Unique.{same}
use Rattle.remainder.specs.Remainder.{remainder_number, check_number}

module _ (bits : List ℕ) (generator degree r r' : ℕ) where
  pub remainder-of-unique : r ≡ remainder_number degree generator bits → r' ≡ remainder_number degree generator bits → r ≡ r'
  remainder-of-unique = same

  pub check-of-unique : r ≡ check_number degree generator bits → r' ≡ check_number degree generator bits → r ≡ r'
  check-of-unique = same
