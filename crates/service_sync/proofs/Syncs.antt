-- Laws of the syncs.
--     agreed            Rust's equality of two lists
--     agree_refl, agree-eq, disagree        a list agrees with itself, and with no other
--     first_kind, second-kind, neither-kind     the two syncs, and any other
--     open-below, open_above, open-true, open-false     an open group is behind positions 1 to 7, and none behind 0 and 8
-- Assumes nothing.
use mathlib.Core.Path.{◌≡◌, refl, ap₂}
use mathlib.Core.Logic.{◌⊎◌, ⊎_elim}
use mathlib.Core.Bool.{Bool, true, false, cond, ◌&&◌}
use mathlib.Core.List.{List, [], ◌∷◌}
use Prim.Native.Nat.{ℕ, ◌<◌}
use lib.Dec.{eqb, ltb}
use lib.Pointwise.{pointwise}
use borrow.Author.Tests.{ltb-true, lt-ltb, eqb-true, eq-eqb}
use Rattle.service_sync.specs.Sync.{sync1, sync2, agree, kind_of, is_open}
use Rattle.service_sync.specs.declared.Kind.TheVariants.{First, Second, Neither}
use Rattle.bits.proofs.Tests.{both, both_left, both_right}

by-cond : (x y : Bool) → (x && y) ≡ cond x y false
by-cond true y = refl
by-cond false y = refl

pub agreed : (a b : List ℕ) → pointwise eqb a b ≡ agree a b
unfolding agree
agreed [] [] = refl
agreed [] (y ∷ b) = refl
agreed (x ∷ a) [] = refl
agreed (x ∷ a) (y ∷ b) = rw (agreed a b) (by-cond (eqb x y) (agree a b))

pub agree_refl : (a : List ℕ) → agree a a ≡ true
unfolding agree
agree_refl [] = refl
agree_refl (x ∷ a) = both (eqb x x) (agree a a) (eq-eqb x x refl) (agree_refl a)

pub agree-eq : (a b : List ℕ) → agree a b ≡ true → a ≡ b
unfolding agree
agree-eq [] [] h = refl
agree-eq [] (y ∷ b) h = cc
agree-eq (x ∷ a) [] h = cc
agree-eq (x ∷ a) (y ∷ b) h =
    ap₂ ◌∷◌ (eqb-true x y (both_left (eqb x y) (agree a b) h)) (agree-eq a b (both_right (eqb x y) (agree a b) h))

pub disagree : (a b : List ℕ) → (a ≡ b → ⊥) → agree a b ≡ false
disagree a b f = by-test (agree a b) refl where
  by-test : (t : Bool) → agree a b ≡ t → t ≡ false
  by-test true e = absurd (f (agree-eq a b e))
  by-test false e = refl

pub open_above : (p : ℕ) → is_open p ≡ true → 0 < p
unfolding is_open
open_above p h = ltb-true 0 p (both_left (ltb 0 p) (ltb p 8) h)

pub open-below : (p : ℕ) → is_open p ≡ true → p < 8
unfolding is_open
open-below p h = ltb-true p 8 (both_right (ltb 0 p) (ltb p 8) h)

pub open-true : (p : ℕ) → 0 < p → p < 8 → is_open p ≡ true
unfolding is_open
open-true p h k = both (ltb 0 p) (ltb p 8) (lt-ltb 0 p h) (lt-ltb p 8 k)

pub open-false : (p : ℕ) → (p ≡ 0) ⊎ (p ≡ 8) → is_open p ≡ false
unfolding is_open
open-false p h = ⊎_elim (λ (e : p ≡ 0). rw e) (λ (e : p ≡ 8). rw e) h

pub first_kind : kind_of sync1 ≡ First
unfolding kind_of agree
first_kind = refl

pub second-kind : kind_of sync2 ≡ Second
unfolding kind_of agree
second-kind = refl

pub neither-kind : (sync : List ℕ) → (sync ≡ sync1 → ⊥) → (sync ≡ sync2 → ⊥) → kind_of sync ≡ Neither
unfolding kind_of
neither-kind sync f g = rw (disagree sync sync1 f, disagree sync sync2 g)
