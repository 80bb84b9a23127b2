-- Any two results that meet a promise are the same: for each public function, `FUNCTION-unique`.
-- Assumes nothing.
use mathlib.Core.Path.{◌≡◌}
use mathlib.Core.Bool.{Bool}
use mathlib.Core.List.{List, [], ◌∷◌}
use Prim.Native.Nat.{ℕ}
use lib.IntN.{ℤ}
use lib.Signed.{mag}
use Rattle.sample.specs.Sample.{is_code, coded, sampled, code_answer, sample_answer}
use Rattle.sample.specs.Factor.{chosen, factor_answer}
use Rattle.sample.specs.Pattern.{signed_of, pattern_of}
use Rattle.std.specs.declared.result.Result.{Result}
use Rattle.bits.specs.declared.refusal.Refusal.{Refusal}
use Rattle.bits.proofs.Refused.{told-same}
use Rattle.bits.proofs.Unique.{same}

pub code-of-unique : (r r' : Result ℤ Refusal) (x : ℤ) (s : ℕ) → coded r ≡ code_answer x s → coded r' ≡ code_answer x s → r ≡ r'
code-of-unique r r' x s p q = told-same (λ c. c ∷ []) (λ a b e. cc) r r' (same p q)

pub sample-of-unique : (r r' : Result ℤ Refusal) (c : ℤ) (s : ℕ) → sampled r ≡ sample_answer c s → sampled r' ≡ sample_answer c s → r ≡ r'
sample-of-unique r r' c s p q = told-same (λ x. x ∷ []) (λ a b e. cc) r r' (same p q)

pub factor-of-unique : (r r' : Result ℕ Refusal) (xs : List ℤ) → chosen r ≡ factor_answer xs → chosen r' ≡ factor_answer xs → r ≡ r'
factor-of-unique r r' xs p q = told-same (λ s. s ∷ []) (λ a b e. cc) r r' (same p q)

pub signed-of-unique : (r r' : ℤ) (u : ℕ) → r ≡ signed_of 8192 u → r' ≡ signed_of 8192 u → r ≡ r'
signed-of-unique r r' u = same

pub pattern-of-unique : (r r' : ℕ) (z : ℤ) → r ≡ pattern_of 8192 z → r' ≡ pattern_of 8192 z → r ≡ r'
pattern-of-unique r r' z = same

pub is-code-unique : (r r' : Bool) (c : ℤ) → r ≡ is_code c → r' ≡ is_code c → r ≡ r'
is-code-unique r r' c = same

pub reach-unique : (r r' : ℕ) (z : ℤ) → r ≡ mag z → r' ≡ mag z → r ≡ r'
reach-unique r r' z = same
