-- Any two results that meet a promise are the same: for each public function, `FUNCTION-unique`. Assumes nothing.
use mathlib.Core.Path.{◌≡◌}
use mathlib.Core.List.{List}
use Prim.Native.Nat.{ℕ}
use Rattle.std.specs.declared.result.Result.{Result}
use Rattle.bits.specs.declared.refusal.Refusal.{Refusal}
use Rattle.bits.specs.Refused.{told}
use Rattle.bits.proofs.Refused.{told-same}
use Rattle.bits.proofs.Unique.{same}
use Rattle.kinds.specs.Kinds.{kinds_of, lost_kinds}

pub lost-unique : (r r' : List ℕ) → r ≡ lost_kinds → r' ≡ lost_kinds → r ≡ r'
lost-unique r r' = same

pub of-programme-unique :
    (q : ℕ) (marks : List ℕ) (r r' : Result (List ℕ) Refusal) → told (λ (k : List ℕ). k) r ≡ kinds_of q marks → told (λ (k : List ℕ). k) r' ≡ kinds_of q marks → r ≡ r'
of-programme-unique q marks r r' e e' = told-same (λ (k : List ℕ). k) (λ x y h. h) r r' (same e e')
