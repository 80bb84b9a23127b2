-- Laws of the factor (document 01, "Scale words": the largest s from 0 to 7 with every sample in its range).
--     factor-bound                 it is at most 7
--     factor-fits                  every sample fits it, where every sample has 16 bits
--     factor-largest               no larger one up to 7 fits them all
--     factor-only                  nothing else is such a number
--     largest-..                   the same of any test; then what a search from above finds at each step
--     both-below                   of two numbers the larger decides
-- Assumes nothing.
use mathlib.Core.Path.{◌≡◌, refl, sym, ap, ◌∙◌}
use mathlib.Core.Logic.{⊎_elim}
use mathlib.Core.Bool.{Bool, true, false, true≢false, ◌&&◌, and-false, and_comm}
use mathlib.Core.List.{List}
use Prim.Native.Nat.{ℕ, zero, suc, max, ◌-◌, ◌<◌, ◌≤◌, zero-le}
use native.Mathlib.Nat.{not-suc-le-zero, le_of_suc-le-suc, eq-or-lt_of_le, le_antisymm, lt_irrefl, lt_of_lt_of_le, lt_of_le_of_lt}
use native.Mathlib.Omega.{arith}
use lib.Dec.{ltb}
use lib.IntN.{ℤ}
use borrow.Author.Tests.{ltb-true, ltb-false, lt-ltb}
use Rattle.sample.specs.Factor.{all_fit, largest, factor_of}
use Rattle.bits.proofs.Tests.{either_way}

-- ---- the largest with a test
module _ (P : ℕ → Bool) where
  pub largest-hit : (n : ℕ) → P n ≡ true → largest n P ≡ n
  unfolding largest
  largest-hit zero t = refl
  largest-hit (suc n) t = rw t

  pub largest-miss : (n : ℕ) → 0 < n → P n ≡ false → largest n P ≡ largest (n - 1) P
  unfolding largest
  largest-miss zero l t = absurd (not-suc-le-zero l)
  largest-miss (suc n) l t = let e : suc n - 1 ≡ n = omega arith in rw (t, e)

  pub largest-bound : (n : ℕ) → largest n P ≤ n
  unfolding largest
  largest-bound zero = zero-le
  largest-bound (suc n) =
      either_way (P (suc n))
      (λ t. rw t (omega arith))
      (λ t. let l : largest n P ≤ n = largest-bound n in rw t (omega arith))

  pub largest-has : (n : ℕ) → P 0 ≡ true → P (largest n P) ≡ true
  unfolding largest
  largest-has zero h = h
  largest-has (suc n) h = either_way (P (suc n)) (λ t. rw t t) (λ t. rw t (largest-has n h))

  pub largest-none : (n s : ℕ) → s ≤ n → largest n P < s → P s ≡ false
  unfolding largest
  largest-none zero s l h = absurd (not-suc-le-zero (lt_of_lt_of_le h l))
  largest-none (suc n) s l h =
      either_way (P (suc n))
      (λ t. absurd (lt_irrefl s (lt_of_le_of_lt l (rw t at h))))
      (λ t. ⊎_elim (λ e. rw e t) (λ m. largest-none n s (le_of_suc-le-suc m) (rw t at h)) (eq-or-lt_of_le l))

pub largest-ext : (n : ℕ) (P Q : ℕ → Bool) → ((s : ℕ) → P s ≡ Q s) → largest n P ≡ largest n Q
unfolding largest
largest-ext zero P Q e = refl
largest-ext (suc n) P Q e = rw (e (suc n), largest-ext n P Q e)

test-max : (m n h : ℕ) → m ≤ n → (ltb m h && ltb n h) ≡ ltb n h
test-max m n h l =
    either_way (ltb n h)
    (λ t. let k : m < h = omega (arith, ltb-true n h t) in rw (lt-ltb m h k))
    (λ t. rw t (and-false (ltb m h)))

pub both-below : (m n h : ℕ) → (ltb m h && ltb n h) ≡ ltb (max m n) h
both-below m n h =
    either_way (ltb m n)
    (λ t. let l : m ≤ n = omega (arith, ltb-true m n t) in let e : n ≡ max m n = omega arith in test-max m n h l ∙ ap (λ (k : ℕ). ltb k h) e)
    (λ t.
    let l : n ≤ m = ltb-false m n t in
    let e : m ≡ max m n = omega arith in
    and_comm (ltb m h) (ltb n h) ∙ test-max n m h l ∙ ap (λ (k : ℕ). ltb k h) e)

-- ---- the factor
module _ (xs : List ℤ) where
  pub factor-bound : factor_of xs ≤ 7
  unfolding factor_of
  factor-bound = largest-bound (λ s. all_fit s xs) 7

  pub factor-fits : all_fit 0 xs ≡ true → all_fit (factor_of xs) xs ≡ true
  unfolding factor_of
  factor-fits = largest-has (λ s. all_fit s xs) 7

  pub factor-largest : (s : ℕ) → s ≤ 7 → factor_of xs < s → all_fit s xs ≡ false
  unfolding factor_of
  factor-largest = largest-none (λ s. all_fit s xs) 7

  pub factor-only : (s : ℕ) → s ≤ 7 → all_fit s xs ≡ true → ((t : ℕ) → t ≤ 7 → s < t → all_fit t xs ≡ false) → all_fit 0 xs ≡ true → factor_of xs ≡ s
  factor-only s l fit none zero-fits =
      le_antisymm
      (not-lt (λ k. true≢false (sym (factor-fits zero-fits) ∙ none (factor_of xs) factor-bound k)))
      (not-lt (λ k. true≢false (sym fit ∙ factor-largest s l k)))
    where
      not-lt : {a b : ℕ} → (b < a → ⊥) → a ≤ b
      not-lt {a} {b} h = either_way (ltb b a) (λ t. absurd (h (ltb-true b a t))) (λ t. ltb-false b a t)
