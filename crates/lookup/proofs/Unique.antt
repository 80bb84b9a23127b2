-- Any two results that meet a promise are the same: for each public function, `FUNCTION-unique`. Assumes nothing.
use mathlib.Core.Path.{◌≡◌, sym, ◌∙◌}
use mathlib.Core.List.{List}
use Prim.Native.Nat.{ℕ}
use Rattle.bits.proofs.Unique.{same}
use Rattle.reading.specs.Wrong.{answer}
use Rattle.reading.specs.declared.Places.{Places}
use Rattle.lookup.specs.Search.{places_by, true_lookup}
use Rattle.lookup.specs.declared.Lookup.{Lookup}
use Rattle.reading.proofs.Answered.{answer-inj}

module _ (singles pairs places starts : List ℕ) (radius remainder : ℕ) where
  pub places-by-unique : (p q : Places) → answer p ≡ places_by singles pairs places starts radius remainder → answer q ≡ places_by singles pairs places starts radius remainder → p ≡ q
  places-by-unique p q h k = answer-inj p q (h ∙ sym k)

pub new-unique : (t u : Lookup) → t ≡ true_lookup → u ≡ true_lookup → t ≡ u
new-unique t u = same
