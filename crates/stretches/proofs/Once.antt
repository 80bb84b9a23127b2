-- Of 3,200 pairs in a row, and so of a superframe, at most one shows that a stretch has ended.
--     ended-once        so a step puts at most one line
-- Assumes nothing.
use mathlib.Core.Path.{◌≡◌, refl, subst, sym}
use mathlib.Core.Bool.{true}
use mathlib.Core.List.{List, [], ◌∷◌}
use Prim.Native.Nat.{ℕ, suc, ◌+◌, ◌≤◌}
use native.Mathlib.Omega.{arith}
use borrow.Author.Tests.{lt-ltb}
use lib.Dec.{ltb, eqb}
use lib.ListN.{length, drop}
use Rattle.bits.proofs.Tests.{either_way}
use Rattle.label.specs.declared.Stretch.{Stretch}
use Rattle.std.specs.declared.option.Option.{Option}
use Rattle.std.specs.declared.option.Option.TheVariants.{Some, None}
use Rattle.stretches.specs.Stretches.{rest, fresh, grow, met, from, opened}

-- a stretch that ends so late that all the pairs are near it
kept : (s : Stretch) (ss : List Stretch) (n : ℕ) (ks : List ℕ) → length ks ≤ 3200 → n + length ks ≤ s.behind + 3200 → drop 1 (from (s ∷ ss) n ks) ≡ ss
unfolding from met
kept s ss n [] h l = refl
kept s ss n (k ∷ ks) h l =
    let near : ltb n (s.behind + rest) ≡ true = lt-ltb n (s.behind + rest) (omega arith) in
    either_way (eqb k 0)
    (λ e. rw e (kept s ss (suc n) ks (omega arith) (omega arith)))
    (λ e. rw (e, near) (kept (grow s n k) ss (suc n) ks (omega arith) (omega arith)))

once-none : (n : ℕ) (ks : List ℕ) → length ks ≤ 3200 → drop 1 (from [] n ks) ≡ []
unfolding from met
once-none n [] h = refl
once-none n (k ∷ ks) h =
    either_way (eqb k 0)
    (λ e. rw e (once-none (suc n) ks (omega arith)))
    (λ e. rw e (kept (grow (fresh n) n k) [] (suc n) ks (omega arith) (omega arith)))

once-one : (s : Stretch) (n : ℕ) (ks : List ℕ) → length ks ≤ 3200 → length (drop 1 (from (s ∷ []) n ks)) ≤ 1
unfolding from met
once-one s n [] h = omega arith
once-one s n (k ∷ ks) h =
    either_way (eqb k 0)
    (λ e. rw e (once-one s (suc n) ks (omega arith)))
    (λ e.
    either_way (ltb n (s.behind + rest))
    (λ t. rw (e, t) (at_most (kept (grow s n k) [] (suc n) ks (omega arith) (omega arith)) (omega arith)))
    (λ t. rw (e, t) (at_most (kept (grow (fresh n) n k) (s ∷ []) (suc n) ks (omega arith) (omega arith)) (omega arith))))
  where
    at_most : {a b : List Stretch} → a ≡ b → length b ≤ 1 → length a ≤ 1
    at_most e l = subst (λ (c : List Stretch). length c ≤ 1) (sym e) l

pub ended-once : (o : Option Stretch) (n : ℕ) (ks : List ℕ) → length ks ≤ 3200 → length (drop 1 (from (opened o) n ks)) ≤ 1
ended-once None n ks h = subst (λ (c : List Stretch). length c ≤ 1) (sym (once-none n ks h)) (omega arith)
ended-once (Some s) n ks h = once-one s n ks h
