-- Two labels are the same where `==` of their parts says so: `same_parts`. Assumes nothing.
use mathlib.Core.Path.{◌≡◌, refl, sym, ap, ap₂, ◌∙◌}
use mathlib.Core.Bool.{Bool, true, false, cond, ◌&&◌}
use mathlib.Core.List.{List, [], ◌∷◌, ◌++◌}
use Prim.Native.Nat.{ℕ, zero, suc, ◌+◌, ◌*◌, ◌-◌, ◌<◌, ◌≤◌}
use native.Mathlib.Omega.{arith}
use lib.Dec.{eqb}
use lib.ListN.{length, take, drop}
use lib.Pointwise.{pointwise}
use lib.Seq.{take-suc, length-take-le}
use Rattle.std.proofs.lemmas.List.{get_or-drop, length-drop}
use Rattle.bits.proofs.Tests.{either_way}
use Rattle.name_lines.specs.Names.{same_to}

both-last : (b : Bool) → b && true ≡ b
both-last true = refl
both-last false = refl

-- one element more
pointwise-more :
    (xs ys : List ℕ) (x y : ℕ) → length xs ≡ length ys → pointwise eqb (xs ++ (x ∷ [])) (ys ++ (y ∷ [])) ≡ cond (pointwise eqb xs ys) (eqb x y) false
pointwise-more [] [] x y e = both-last (eqb x y)
pointwise-more [] (b ∷ ys) x y e = cc
pointwise-more (a ∷ xs) [] x y e = cc
pointwise-more (a ∷ xs) (b ∷ ys) x y e =
    let rest = pointwise-more xs ys x y (cc) in
    either_way (eqb a b) (λ t. rw t rest) (λ t. rw t refl)

module _ (old new : List ℕ) (c : ℕ) (olds : length old ≡ 256) (news : length new ≡ 256) (within : c < 32) where
  same_up : (n : ℕ) → n ≤ 8 → pointwise eqb (take n (drop (8 * c) old)) (take n (drop (8 * c) new)) ≡ same_to n old new c
  unfolding same_to
  same_up zero h = refl
  same_up (suc n) h =
      let o : n < length (drop (8 * c) old) = omega (arith, length-drop (8 * c) old) in
      let w : n < length (drop (8 * c) new) = omega (arith, length-drop (8 * c) new) in
      let long : length (take n (drop (8 * c) old)) ≡ length (take n (drop (8 * c) new)) =
      length-take-le n (drop (8 * c) old) (omega (arith, o)) ∙ sym (length-take-le n (drop (8 * c) new) (omega (arith, w))) in
      ap₂ (pointwise eqb) (take-suc (drop (8 * c) old) n 0 o) (take-suc (drop (8 * c) new) n 0 w)
      ∙ pointwise-more (take n (drop (8 * c) old)) (take n (drop (8 * c) new)) _ _ long
      ∙ ap₂ (λ (b e : Bool). cond b e false) (same_up n (omega (arith, h)))
      (ap₂ eqb (get_or-drop (8 * c) old n 0) (get_or-drop (8 * c) new n 0))

  pub same_parts : pointwise eqb (take (8 * c + 8 - 8 * c) (drop (8 * c) old)) (take (8 * c + 8 - 8 * c) (drop (8 * c) new)) ≡ same_to 8 old new c
  same_parts =
      let width : 8 * c + 8 - 8 * c ≡ 8 = omega arith in
      ap (λ (n : ℕ). pointwise eqb (take n (drop (8 * c) old)) (take n (drop (8 * c) new))) width ∙ same_up 8 (omega arith)
