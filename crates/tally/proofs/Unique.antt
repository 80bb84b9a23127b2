-- Any two results that meet a promise are the same: for each public function, `FUNCTION-unique`. Assumes nothing.
use mathlib.Core.Path.{◌≡◌}
use mathlib.Core.List.{List}
use Prim.Native.Nat.{ℕ}
use Rattle.std.specs.declared.result.Result.{Result}
use Rattle.bits.specs.declared.refusal.Refusal.{Refusal}
use Rattle.bits.proofs.Unique.{same}
use Rattle.tally.specs.Totals.{sum_of, no_totals, added_to, step_of, listed_with}
use Rattle.tape.specs.declared.blocks.Counted.{Counted}
use Rattle.tally.specs.declared.Totals.{Totals}

pub sum-unique : (r r' : ℕ) (l : List ℕ) → r ≡ sum_of l → r' ≡ sum_of l → r ≡ r'
sum-unique r r' l = same

pub none-unique : (r r' : Totals) → r ≡ no_totals → r' ≡ no_totals → r ≡ r'
none-unique r r' = same

pub add-unique : (r r' : Result Totals Refusal) (t : Totals) (c : Result Counted Refusal) → r ≡ added_to t c → r' ≡ added_to t c → r ≡ r'
add-unique r r' t c = same

pub list-unique : (r r' : Result Totals Refusal) (t : Totals) (radius : ℕ) (c : Result Counted Refusal) (sf : List ℕ) → r ≡ listed_with t radius c sf → r' ≡ listed_with t radius c sf → r ≡ r'
list-unique r r' t radius c sf = same

pub step-unique : (r r' : Result Totals Refusal) (t : Totals) (sf : List ℕ) → r ≡ step_of t sf → r' ≡ step_of t sf → r ≡ r'
step-unique r r' t sf = same
