-- Any two results that meet a promise are the same: for each public function, `FUNCTION-unique`. Assumes nothing.
use mathlib.Core.Path.{◌≡◌, ap}
use mathlib.Core.List.{List, [], ◌∷◌}
use Prim.Native.Nat.{ℕ}
use lib.ListN.{get_or}
use Rattle.std.specs.declared.result.Result.{Result}
use Rattle.bits.specs.declared.refusal.Refusal.{Refusal}
use Rattle.bits.proofs.Refused.{told-same}
use Rattle.bits.proofs.Unique.{same}
use Rattle.nearest.specs.Reading.{scale_answer, factors_told}
use Rattle.nearest.specs.Extra.{extra_answer}
use Rattle.nearest.specs.declared.Extra.{Extra}
use Rattle.nearest.specs.declared.Factors.{Factors}

pub read-unique : (r r' : Result Factors Refusal) (bits : List ℕ) → factors_told r ≡ scale_answer bits → factors_told r' ≡ scale_answer bits → r ≡ r'
read-unique r r' bits p q =
    told-same (λ f. f.left ∷ f.right ∷ f.places ∷ [])
    (λ x y e. ap (λ (l : List ℕ). record { left = get_or l 0 0; right = get_or l 1 0; places = get_or l 2 0 }) e) r r' (same p q)

pub read-extra-unique : (r r' : Result Extra Refusal) (bits : List ℕ) → r ≡ extra_answer bits → r' ≡ extra_answer bits → r ≡ r'
read-extra-unique r r' bits = same
