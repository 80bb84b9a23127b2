-- Samples and their codes (document 01, "Samples" and "Scale words").
--     fits s x          sample x is from -2^(15-s) to 2^(15-s)-1: it fits factor s
--     is_code c          c is a signed number of 14 bits, -8192 to 8191
--     code_of x s        the code of sample x at factor s
--     sample_of c s      the sample of code c at factor s
--     code_answer x s, sample_answer c s      with the refusals: 2 where a given number is out of its range, or a sample does not fit
--     coded r, sampled r                    what the code's answers say in document 01's terms
use Rattle.std.specs.Prelude.{ℕ, ◌-◌, ◌^◌, Bool, cond, ◌&&◌, [], ◌∷◌, leb, ℤ, pos, neg_ℤ, ◌*ℤ◌}
use Rattle.std.specs.Int.Signed.{shr_z}
use Rattle.bits.specs.Answer.{Answer, accepted, refused}
use Rattle.bits.specs.Refused.{told}
use Rattle.bits.specs.declared.refusal.Refusal.{Refusal}
use Rattle.std.specs.declared.result.Result.{Result}
use Rattle.sample.specs.Signed.{between}

unfoldable pub fits : ℕ → ℤ → Bool
fits s x = between (neg_ℤ (pos (2 ^ (15 - s)))) (pos (2 ^ (15 - s) - 1)) x

unfoldable pub is_code : ℤ → Bool
is_code c = between (neg_ℤ (pos 8192)) (pos 8191) c

-- s of 0, 1 or 2: divided by 2^(2-s), rounded down; s from 3: times 2^(s-2)
unfoldable pub code_of : ℤ → ℕ → ℤ
code_of x s = cond (leb s 2) (shr_z x (2 ^ (2 - s))) (x *ℤ pos (2 ^ (s - 2)))

-- times 2^(2-s), or divided by 2^(s-2), rounded down
unfoldable pub sample_of : ℤ → ℕ → ℤ
sample_of c s = cond (leb s 2) (c *ℤ pos (2 ^ (2 - s))) (shr_z c (2 ^ (s - 2)))

unfoldable pub code_answer : ℤ → ℕ → Answer ℤ
code_answer x s = cond (leb s 7 && fits s x) (accepted (code_of x s ∷ [])) (refused 2)

unfoldable pub sample_answer : ℤ → ℕ → Answer ℤ
sample_answer c s = cond (leb s 7 && is_code c) (accepted (sample_of c s ∷ [])) (refused 2)

abbrev pub coded : Result ℤ Refusal → Answer ℤ
coded r = told (λ c. c ∷ []) r

abbrev pub sampled : Result ℤ Refusal → Answer ℤ
sampled r = told (λ x. x ∷ []) r
