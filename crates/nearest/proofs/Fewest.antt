-- The fewest places, and the pairs that differ in so many.
--     fewest-low, fewest-is     none of the pairs differs in fewer, and one differs in so many
--     none-at, one_at           what it says of every pair that the list of those is empty, or a single one
--     at_none, at_one           and the other way round
--     Single bits n             pair n is nearer than every other
--     Shared bits               two are equally near, and none is nearer
--     single-read, shared-read  what is read then
-- Assumes nothing.
use mathlib.Core.Path.{◌≡◌, refl, sym, ap, ap₂, ◌∙◌}
use mathlib.Core.Logic.{⊎_elim}
use mathlib.Core.List.{List, [], ◌∷◌}
use Prim.Native.Nat.{ℕ, zero, suc, ◌/◌, ◌%◌, ◌≤◌, ◌<◌}
use native.Mathlib.Nat.{not-suc-le-zero, le_of_suc-le-suc, le_trans, eq-or-lt_of_le, min-le_left, min-le_right, min-eq_left, min-eq_right}
use native.Mathlib.Omega.{arith}
use borrow.Author.Tests.{eqb-true, eqb-false, leb-true, leb-false, ne_eqb}
use lib.Dec.{eqb, leb}
use lib.ListN.{length}
use Rattle.bits.specs.Answer.{accepted, refused}
use Rattle.bits.proofs.Tests.{either_way}
use Rattle.nearest.specs.Reading.{away, fewest, pairs_at, only, read_scale}

pub record Single (bits : List ℕ) (n : ℕ) : Type 0 where
  pub within : n < 64
  pub nearer : (m : ℕ) → m < 64 → (m ≡ n → ⊥) → away bits n < away bits m

pub record Shared (bits : List ℕ) : Type 0 where
  pub one : ℕ
  pub other : ℕ
  pub one-within : one < 64
  pub other-within : other < 64
  pub differ : other ≡ one → ⊥
  pub equal : away bits other ≡ away bits one
  pub none-nearer : (m : ℕ) → m < 64 → away bits one ≤ away bits m

module _ (bits : List ℕ) where
  pub fewest-low : (k m : ℕ) → m ≤ k → fewest bits k ≤ away bits m
  unfolding fewest
  fewest-low zero m h = let z : m ≡ 0 = omega arith in rw z (omega arith)
  fewest-low (suc k) m h =
      ⊎_elim
      (λ e. rw e (min-le_left (away bits (suc k)) (fewest bits k)))
      (λ l. le_trans (min-le_right (away bits (suc k)) (fewest bits k)) (fewest-low k m (le_of_suc-le-suc l)))
      (eq-or-lt_of_le h)

  pub fewest-is : (k : ℕ) → (m : ℕ) × ((m ≤ k) × (fewest bits k ≡ away bits m))
  unfolding fewest
  fewest-is zero = (0, (omega arith, refl))
  fewest-is (suc k) =
      either_way (leb (away bits (suc k)) (fewest bits k))
      (λ t. (suc k, (omega arith, min-eq_left (leb-true (away bits (suc k)) (fewest bits k) t))))
      (λ t.
      let before = fewest-is k in
      let less : fewest bits k < away bits (suc k) = leb-false (away bits (suc k)) (fewest bits k) t in
      let low : fewest bits k ≤ away bits (suc k) = omega arith in
      (before.0, (omega (arith, before.1.0), min-eq_right low ∙ before.1.1)))

  -- ---- the pairs that differ in so many
  none-at : (d n : ℕ) → pairs_at bits d n ≡ [] → (m : ℕ) → m < n → away bits m ≡ d → ⊥
  unfolding pairs_at
  none-at d zero e m h a = not-suc-le-zero h
  none-at d (suc n) e m h a =
      either_way (eqb (away bits n) d)
      (λ t. let l : n ∷ pairs_at bits d n ≡ [] = rw t at e in let c : suc (length (pairs_at bits d n)) ≡ 0 = ap length l in omega arith)
      (λ t.
      let l : pairs_at bits d n ≡ [] = rw t at e in
      ⊎_elim (λ s. eqb-false (away bits n) d t (ap (away bits) (sym s) ∙ a)) (λ k. none-at d n l m k a) (eq-or-lt_of_le (le_of_suc-le-suc h)))

  one_at : (d n x : ℕ) → pairs_at bits d n ≡ x ∷ [] → (m : ℕ) → m < n → away bits m ≡ d → m ≡ x
  unfolding pairs_at
  one_at d zero x e m h a = absurd (not-suc-le-zero h)
  one_at d (suc n) x e m h a =
      either_way (eqb (away bits n) d)
      (λ t.
      let l : n ∷ pairs_at bits d n ≡ x ∷ [] = rw t at e in
      let first : n ≡ x = cc in
      let others : pairs_at bits d n ≡ [] = cc in
      ⊎_elim (λ s. s ∙ first) (λ k. absurd (none-at d n others m k a)) (eq-or-lt_of_le (le_of_suc-le-suc h)))
      (λ t.
      let l : pairs_at bits d n ≡ x ∷ [] = rw t at e in
      ⊎_elim (λ s. absurd (eqb-false (away bits n) d t (ap (away bits) (sym s) ∙ a))) (λ k. one_at d n x l m k a) (eq-or-lt_of_le (le_of_suc-le-suc h)))

  at_none : (d n : ℕ) → ((m : ℕ) → m < n → away bits m ≡ d → ⊥) → pairs_at bits d n ≡ []
  unfolding pairs_at
  at_none d zero h = refl
  at_none d (suc n) h = rw (ne_eqb (away bits n) d (h n (omega arith))) (at_none d n (λ m l. h m (omega arith)))

  at_one : (d n x : ℕ) → x < n → away bits x ≡ d → ((m : ℕ) → m < n → away bits m ≡ d → m ≡ x) → pairs_at bits d n ≡ x ∷ []
  unfolding pairs_at
  at_one d zero x l a h = absurd (not-suc-le-zero l)
  at_one d (suc n) x l a h =
      either_way (eqb (away bits n) d)
      (λ t.
      let same : n ≡ x = h n (omega arith) (eqb-true (away bits n) d t) in
      rw t
      (ap₂ (λ (y : ℕ) (ys : List ℕ). y ∷ ys) same
      (at_none d n (λ m k b. let other : m ≡ x = h m (omega arith) b in omega arith))))
      (λ t.
      rw t
      (⊎_elim
      (λ s. absurd (eqb-false (away bits n) d t (ap (away bits) (sym s) ∙ a)))
      (λ k. at_one d n x k a (λ m b. h m (omega arith)))
      (eq-or-lt_of_le (le_of_suc-le-suc l))))

  -- ---- what is read
  pub single-read : (n : ℕ) → Single bits n → read_scale bits ≡ accepted (n / 8 ∷ n % 8 ∷ away bits n ∷ [])
  unfolding read_scale only
  single-read n h =
      let m = fewest-is 63 in
      let low : fewest bits 63 ≤ away bits n = fewest-low 63 n (omega (arith, h.within)) in
      let same : m.0 ≡ n = same-as m.0 (omega (arith, m.1.0)) (omega (arith, m.1.1)) in
      let d : fewest bits 63 ≡ away bits n = m.1.1 ∙ ap (away bits) same in
      rw d
      (ap (only (away bits n)) (at_one (away bits n) 64 n h.within refl (λ k l e. same-as k l (omega arith))))
    where
      same-as : (k : ℕ) → k < 64 → away bits k ≤ away bits n → k ≡ n
      same-as k l e =
          either_way (eqb k n)
          (λ t. eqb-true k n t)
          (λ t. let less : away bits n < away bits k = h.nearer k l (eqb-false k n t) in absurd (omega arith))

  not-single : (d : ℕ) (ns : List ℕ) → ((x : ℕ) → ns ≡ x ∷ [] → ⊥) → only d ns ≡ refused 5
  unfolding only
  not-single d [] h = refl
  not-single d (n ∷ []) h = absurd (h n refl)
  not-single d (n ∷ m ∷ ns) h = refl

  pub shared-read : Shared bits → read_scale bits ≡ refused 5
  unfolding read_scale
  shared-read t =
      let m = fewest-is 63 in
      let low : fewest bits 63 ≤ away bits t.one = fewest-low 63 t.one (omega (arith, t.one-within)) in
      let high : away bits t.one ≤ away bits m.0 = t.none-nearer m.0 (omega (arith, m.1.0)) in
      let d : away bits t.one ≡ fewest bits 63 = omega (arith, m.1.1) in
      not-single (fewest bits 63) (pairs_at bits (fewest bits 63) 64)
      (λ x e.
      t.differ
      (one_at (fewest bits 63) 64 x e t.other t.other-within (t.equal ∙ d)
      ∙ sym (one_at (fewest bits 63) 64 x e t.one t.one-within d)))
