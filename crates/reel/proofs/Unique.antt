-- Any two results that meet a promise are the same: for each public function, `FUNCTION-unique`. Assumes nothing.
use mathlib.Core.Path.{◌≡◌, refl, sym, ap}
use mathlib.Core.List.{List, [], ◌∷◌}
use Prim.Native.Nat.{ℕ}
use lib.ListN.{get_or}
use Rattle.std.specs.declared.result.Result.{Result}
use Rattle.std.specs.declared.result.Result.TheVariants.{Ok, Err}
use Rattle.bits.specs.declared.refusal.Refusal.{Refusal}
use Rattle.bits.specs.Refused.{number_in}
use Rattle.bits.proofs.Refused.{not_zero, number-same, told-same}
use Rattle.bits.proofs.Unique.{same}
use Rattle.reel.specs.declared.Header.{Header}
use Rattle.reel.specs.Header.{header_of, header_answer}
use Rattle.reel.specs.Run.{run_of, run_answer, part_number, part_of}

-- a refusal by its number
number_told : (r r' : Result (Unit {0}) Refusal) → number_in r ≡ number_in r' → r ≡ r'
number_told (Ok x) (Ok y) e = refl
number_told (Ok x) (Err s) e = absurd (not_zero s (sym e))
number_told (Err r) (Ok y) e = absurd (not_zero r e)
number_told (Err r) (Err s) e = ap Err (number-same r s e)

module _ (bytes : List ℕ) where
  pub read-header-unique : (r r' : Result Header Refusal) → header_answer r ≡ header_of bytes → header_answer r' ≡ header_of bytes → r ≡ r'
  read-header-unique r r' p q =
      told-same (λ h. h.count ∷ h.offset ∷ []) (λ x y e. ap (λ (l : List ℕ). record { count = get_or l 0 0; offset = get_or l 1 0 }) e) r r' (same p q)

  pub run-count-unique : (r r' : Result ℕ Refusal) → run_answer r ≡ run_of bytes → run_answer r' ≡ run_of bytes → r ≡ r'
  run-count-unique r r' p q = told-same (λ n. n ∷ []) (λ x y e. cc) r r' (same p q)

  pub superframe-number-of-unique : (k : ℕ) (r r' : Result (Unit {0}) Refusal) → number_in r ≡ part_number bytes k → number_in r' ≡ part_number bytes k → r ≡ r'
  superframe-number-of-unique k r r' p q = number_told r r' (same p q)

  pub superframe-of-unique : (k : ℕ) (r r' : List ℕ) → r ≡ part_of bytes k → r' ≡ part_of bytes k → r ≡ r'
  superframe-of-unique k r r' = same
