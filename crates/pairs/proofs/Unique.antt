-- Any two results that meet a promise are the same: for each public function, `FUNCTION-unique`; and so is each table of the three alone. Assumes nothing.
use mathlib.Core.Path.{◌≡◌}
use mathlib.Core.List.{List}
use Prim.Native.Nat.{ℕ}
use Rattle.bits.proofs.Unique.{same}
use Rattle.pairs.specs.Pairs.{pair_table, place_table, start_table, true_pairs}
use Rattle.pairs.specs.declared.Pairs.{Pairs}

pub new-unique : (t u : Pairs) → t ≡ true_pairs → u ≡ true_pairs → t ≡ u
new-unique t u = same

module _ (r r' : List ℕ) where
  pub pairs-unique : r ≡ pair_table → r' ≡ pair_table → r ≡ r'
  pairs-unique = same

  pub places-unique : r ≡ place_table → r' ≡ place_table → r ≡ r'
  places-unique = same

  pub starts-unique : r ≡ start_table → r' ≡ start_table → r ≡ r'
  starts-unique = same
