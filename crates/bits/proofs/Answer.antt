-- Laws of answers.
--     accepted-same         equal answers have equal values
--     never_both            nothing is accepted and refused with a number of the paper
--     by-test, by-test-refused    an answer that goes by a test: what it says tells which way the test went
--     first f d vs          f of the first value, and d where there is none: an answer of the code, from document 01's
-- Assumes nothing.
use mathlib.Core.Path.{◌≡◌, refl, sym, ap}
use mathlib.Core.Bool.{Bool, true, false, cond}
use mathlib.Core.List.{List, [], ◌∷◌}
use Prim.Native.Nat.{ℕ, suc}
use native.Mathlib.Nat.{suc-ne-zero}
use Rattle.bits.specs.Answer.{Answer, accepted, refused}

abbrev pub first : {A R : Type 0} → (A → R) → R → List A → R
first f d [] = d
first f d (v ∷ vs) = f v

module _ {A : Type 0} where
  pub accepted-same : {vs ws : List A} → accepted vs ≡ accepted ws → vs ≡ ws
  accepted-same e = ap (λ (a : Answer A). a.values) e

  pub never_both : {vs : List A} (n : ℕ) → refused (suc n) ≡ accepted vs → ⊥
  never_both n e = suc-ne-zero n (ap (λ (a : Answer A). a.number) e)

  pub by-test : (b : Bool) (n : ℕ) {vs ws : List A} → cond b (accepted vs) (refused (suc n)) ≡ accepted ws → (b ≡ true) × (vs ≡ ws)
  by-test true n e = (refl, accepted-same e)
  by-test false n e = absurd (never_both n e)

  pub by-test-refused : (b : Bool) (vs : List A) (n m : ℕ) → cond b (accepted vs) (refused n) ≡ refused (suc m) → b ≡ false
  by-test-refused true vs n m e = absurd (never_both m (sym e))
  by-test-refused false vs n m e = refl
