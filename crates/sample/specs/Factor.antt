-- The factor of 64 samples (document 01, "Scale words").
--     all_fit s xs       every one of the samples fits factor s
--     largest n P       the largest of 0 .. n with P, and 0 where there is none
--     factor_of xs       the factor: the largest s from 0 to 7 that all fit
--     factor_answer xs   with the refusal: 1 for another number of samples than 64
--     chosen r          what the code's answer says in document 01's terms
use Rattle.std.specs.Prelude.{ℕ, zero, suc, Bool, cond, List, [], ◌∷◌, eqb, length, ℤ}
use Rattle.bits.specs.Table.{every}
use Rattle.bits.specs.Answer.{Answer, accepted, refused}
use Rattle.bits.specs.Refused.{told}
use Rattle.bits.specs.declared.refusal.Refusal.{Refusal}
use Rattle.std.specs.declared.result.Result.{Result}
use Rattle.sample.specs.Sample.{fits}

abbrev pub all_fit : ℕ → List ℤ → Bool
all_fit s xs = every (fits s) xs

unfoldable pub largest : ℕ → (ℕ → Bool) → ℕ
largest zero P = 0
largest (suc n) P = cond (P (suc n)) (suc n) (largest n P)

unfoldable pub factor_of : List ℤ → ℕ
factor_of xs = largest 7 (λ s. all_fit s xs)

unfoldable pub factor_answer : List ℤ → Answer ℕ
factor_answer xs = cond (eqb (length xs) 64) (accepted (factor_of xs ∷ [])) (refused 1)

abbrev pub chosen : Result ℕ Refusal → Answer ℕ
chosen r = told (λ s. s ∷ []) r
