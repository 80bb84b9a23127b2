-- Laws of tests.
--     either_way         a proof by cases on a test
--     both_true          two tests that pass together
--     both, both_left, both_right
--                        the same of tests that are joined as a function's early returns join them
--     picked             what holds of both answers holds of the one that a test picks
-- Assumes nothing.
use mathlib.Core.Path.{◌≡◌, refl, sym}
use mathlib.Core.Bool.{Bool, true, false, true≢false, cond, ◌&&◌}

pub either_way : {P : Type 0} (b : Bool) → (b ≡ true → P) → (b ≡ false → P) → P
either_way true h k = h refl
either_way false h k = k refl

pub both_true : (a b : Bool) → a && b ≡ true → (a ≡ true) × (b ≡ true)
both_true true b t = (refl, t)
both_true false b t = absurd (true≢false (sym t))

pub both : (a b : Bool) → a ≡ true → b ≡ true → cond a b false ≡ true
both a b p q = rw (p, q)

pub both_left : (a b : Bool) → cond a b false ≡ true → a ≡ true
both_left true b h = refl
both_left false b h = h

pub both_right : (a b : Bool) → cond a b false ≡ true → b ≡ true
both_right true b h = h
both_right false true h = refl
both_right false false h = h

pub picked : {A : Type 0} (P : A → Type 0) (b : Bool) (x y : A) → P x → P y → P (cond b x y)
picked P true x y h k = h
picked P false x y h k = k
