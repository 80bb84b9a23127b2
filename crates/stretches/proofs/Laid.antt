-- The stretches of a list of kinds are what they are said to be.
--     laid              the list is laid: what `Laid` says holds of `stretches`, for every list that 64 bits can count
--     covered           every troubled pair lies in exactly one stretch
-- Assumes nothing.
use mathlib.Core.Path.{◌≡◌, refl, sym, ap, ◌∙◌, subst}
use mathlib.Core.Bool.{Bool, false, cond}
use mathlib.Core.List.{List, [], ◌∷◌}
use Prim.Native.Nat.{ℕ, zero, suc, ◌+◌, ◌-◌, ◌<◌, ◌≤◌}
use native.Mathlib.Nat.{not-suc-le-zero}
use native.Mathlib.Decide.{dec_le}
use native.Mathlib.Numerals.{add-one}
use native.Mathlib.Omega.{arith}
use borrow.Author.Tests.{ltb-true, ltb-false, lt-ltb, le-ltb, le-leb, lt-leb, eqb-true, eqb-false}
use lib.Dec.{ltb, eqb, leb}
use lib.ListN.{length, get_or, take}
use lib.Seq.{take_all}
use Rattle.bits.proofs.Tests.{either_way}
use Rattle.label.specs.declared.Stretch.{Stretch}
use Rattle.stretches.specs.Stretches.{rest, counted, fresh, grow, met, from, stretches}
use Rattle.stretches.specs.Laid.{many, One, Far, Laid, covers}
use Rattle.stretches.proofs.Laws.{from_more}

-- ---- counts
module _ (P : ℕ → Bool) (K : ℕ → ℕ) where
  many-most : (n : ℕ) → many P K n ≤ n
  unfolding many
  many-most zero = omega arith
  many-most (suc n) = let h = many-most n in either_way (P (K n)) (λ e. rw e (omega arith)) (λ e. rw e (omega arith))

  many-quiet : P 0 ≡ false → (b n : ℕ) → b ≤ n → ((i : ℕ) → b ≤ i → i < n → K i ≡ 0) → many P K n ≡ many P K b
  unfolding many
  many-quiet o b zero h q = let e : b ≡ 0 = omega arith in rw e refl
  many-quiet o b (suc n) h q = go (λ l. many-quiet o b n l (λ i p r. q i p (omega arith))) (dec_le b n)
    where
      go : (b ≤ n → many P K n ≡ many P K b) → Dec (b ≤ n) → many P K n + cond (P (K n)) 1 0 ≡ many P K b
      go before (yes l) =
          let z : P (K n) ≡ false = ap P (q n l (omega arith)) ∙ o in
          rw z (omega (arith, before l))
      go before (no l) = let e : b ≡ suc n = omega arith in rw e refl

  -- a count goes on to a pair behind untroubled ones
  count-on : P 0 ≡ false → (a b n c : ℕ) → many P K a + c ≡ many P K b → b ≤ n → ((i : ℕ) → b ≤ i → i < n → K i ≡ 0) → n < 18446744073709551615
      → many P K a + counted c (P (K n)) ≡ many P K (n + 1)
  unfolding many
  count-on o a b n c e l q room =
      let same = many-quiet o b n l q in
      let most = many-most n in
      let small : c < 18446744073709551615 = omega (arith, e, same, most) in
      rw (add-one n, lt-ltb c 18446744073709551615 small)
      (either_way (P (K n)) (λ t. rw t (omega (arith, e, same))) (λ t. rw t (omega (arith, e, same))))

-- ---- one pair more
module _ (K : ℕ → ℕ) (n : ℕ) (room : n < 18446744073709551615) where
  begun : 0 < K n → One K (n + 1) (grow (fresh n) n (K n))
  begun h =
      let e : n + 1 - 1 ≡ n = omega arith in
      record {
        some = omega arith;
        within = omega arith;
        first = h;
        last = rw e h;
        quiet = λ i p q. absurd (none i p q);
        dense = λ i p q. absurd (short i p q);
        bads = count-on (λ k. eqb k 1) K refl n n n 0 (native.Mathlib.Nat.add-zero _) (omega arith) (λ i p q. absurd (between i p q)) room;
        nones = count-on (λ k. eqb k 2) K refl n n n 0 (native.Mathlib.Nat.add-zero _) (omega arith) (λ i p q. absurd (between i p q)) room;
        losts = count-on (λ k. ltb 2 k) K refl n n n 0 (native.Mathlib.Nat.add-zero _) (omega arith) (λ i p q. absurd (between i p q)) room;
      }
    where
      none : (i : ℕ) → n + 1 ≤ i → i < n + 1 → ⊥
      none i p q = omega arith

      between : (i : ℕ) → n ≤ i → i < n → ⊥
      between i p q = omega arith

      short : (i : ℕ) → n ≤ i → i + 3200 ≤ n + 1 → ⊥
      short i p q = omega arith

  stays : (s : Stretch) → K n ≡ 0 → One K n s → One K (n + 1) s
  stays s z o =
      record {
        some = o.some;
        within = omega (arith, o.within);
        first = o.first;
        last = o.last;
        quiet = λ i p q. still i p (dec_le (suc i) n) q;
        dense = o.dense;
        bads = o.bads;
        nones = o.nones;
        losts = o.losts;
      }
    where
      still : (i : ℕ) → s.behind ≤ i → Dec (i < n) → i < n + 1 → K i ≡ 0
      still i p (yes l) q = o.quiet i p l
      still i p (no l) q = let e : i ≡ n = omega arith in rw e z

  goes_on : (s : Stretch) → 0 < K n → n < s.behind + 3200 → One K n s → One K (n + 1) (grow s n (K n))
  goes_on s h near o =
      let e : n + 1 - 1 ≡ n = omega arith in
      record {
        some = omega (arith, o.some, o.within);
        within = omega arith;
        first = o.first;
        last = rw e h;
        quiet = λ i p q. absurd (none i p q);
        dense = λ i p q. there i p q (dec_le (i + 3200) s.behind) (dec_le (i + 3200) n);
        bads = count-on (λ k. eqb k 1) K refl s.start s.behind n s.bad o.bads o.within o.quiet room;
        nones = count-on (λ k. eqb k 2) K refl s.start s.behind n s.none o.nones o.within o.quiet room;
        losts = count-on (λ k. ltb 2 k) K refl s.start s.behind n s.lost o.losts o.within o.quiet room;
      }
    where
      none : (i : ℕ) → n + 1 ≤ i → i < n + 1 → ⊥
      none i p q = omega arith

      there : (i : ℕ) → s.start ≤ i → i + 3200 ≤ n + 1 → Dec (i + 3200 ≤ s.behind) → Dec (i + 3200 ≤ n)
          → (j : ℕ) × (i ≤ j) × (j < i + 3200) × (0 < K j)
      there i p q (yes l) d = o.dense i p l
      there i p q (no l) (yes m) = (s.behind - 1, omega (arith, o.some), omega (arith, o.some), o.last)
      there i p q (no l) (no m) = (n, omega arith, omega arith, h)

  calm : ((i : ℕ) → i < n → K i ≡ 0) → K n ≡ 0 → (i : ℕ) → i < n + 1 → K i ≡ 0
  calm q z i h = go (dec_le (suc i) n)
    where
      go : Dec (i < n) → K i ≡ 0
      go (yes l) = q i l
      go (no l) = let e : i ≡ n = omega arith in rw e z

  some-kind : eqb (K n) 0 ≡ false → 0 < K n
  some-kind e = let d = eqb-false (K n) 0 e in omega arith

  pub laid-met : (ss : List Stretch) → Laid K n ss → Laid K (n + 1) (met ss n (K n))
  unfolding met Laid Far
  laid-met [] q =
      either_way (eqb (K n) 0)
      (λ e. rw e (calm q (eqb-true (K n) 0 e)))
      (λ e. rw e (begun (some-kind e), tt, q))
  laid-met (s ∷ ss) l =
      either_way (eqb (K n) 0)
      (λ e. rw e (stays s (eqb-true (K n) 0 e) l.0, l.1, l.2))
      (λ e.
      either_way (ltb n (s.behind + rest))
      (λ t. rw (e, t) (goes_on s (some-kind e) (ltb-true n (s.behind + rest) t) l.0, far-on ss l.1, l.2))
      (λ t. rw (e, t) (begun (some-kind e), ltb-false n (s.behind + rest) t, l)))
    where
      far-on : (ts : List Stretch) → Far s ts → Far (grow s n (K n)) ts
      far-on [] f = tt
      far-on (t ∷ ts) f = f

-- ---- a whole list
module _ (ks : List ℕ) (room : length ks < 18446744073709551616) where
  kind : ℕ → ℕ
  kind i = get_or ks i 0

  laid-take : (i : ℕ) → i ≤ length ks → Laid (λ i. get_or ks i 0) i (from [] 0 (take i ks))
  unfolding from Laid
  laid-take zero h = λ i l. absurd (not-suc-le-zero l)
  laid-take (suc i) h =
      let before = laid-take i (omega arith) in
      let more : from [] 0 (take (suc i) ks) ≡ met (from [] 0 (take i ks)) i (get_or ks i 0) =
      ap (λ (m : ℕ). from [] 0 (take m ks)) (sym (add-one i)) ∙ from_more [] 0 ks i (omega arith) ∙ ap (λ (m : ℕ). met (from [] 0 (take i ks)) m (get_or ks i 0)) (native.Mathlib.Nat.zero-add i) in
      subst (λ (ss : List Stretch). Laid (λ i. get_or ks i 0) (suc i) ss) (sym more)
      (subst (λ (m : ℕ). Laid (λ i. get_or ks i 0) m (met (from [] 0 (take i ks)) i (get_or ks i 0))) (add-one i) (laid-met (λ i. get_or ks i 0) i (omega arith) (from [] 0 (take i ks)) before))

  pub laid : Laid (λ i. get_or ks i 0) (length ks) (stretches ks)
  laid = subst (λ (l : List ℕ). Laid (λ i. get_or ks i 0) (length ks) (from [] 0 l)) (take_all (length ks) ks (omega arith)) (laid-take (length ks) (omega arith))

-- ---- exactly one
module _ (K : ℕ → ℕ) where
  none-cover : (i n : ℕ) (ss : List Stretch) → Laid K n ss → n ≤ i → covers i ss ≡ 0
  unfolding covers Laid
  none-cover i n [] l h = refl
  none-cover i n (s ∷ ss) l h =
      let o = l.0 in
      let rest = none-cover i s.start ss l.2 (omega (arith, o.some, o.within)) in
      let a : s.start ≤ i = omega (arith, o.some, o.within) in
      let b : s.behind ≤ i = omega (arith, o.within) in
      rw (le-leb s.start i a, le-ltb i s.behind b, rest)

  one-cover : (i n : ℕ) (ss : List Stretch) → Laid K n ss → i < n → 0 < K i → covers i ss ≡ 1
  unfolding covers Laid
  one-cover i n [] l h t = let z : K i ≡ 0 = l i h in absurd (clash z t)
    where
      clash : {x : ℕ} → x ≡ 0 → 0 < x → ⊥
      clash e p = omega arith
  one-cover i n (s ∷ ss) l h t = go (one-cover i s.start ss l.2) (dec_le s.start i) (dec_le s.behind i)
    where
      clash : {x : ℕ} → x ≡ 0 → 0 < x → ⊥
      clash e p = omega arith

      go : (i < s.start → 0 < K i → covers i ss ≡ 1) → Dec (s.start ≤ i) → Dec (s.behind ≤ i)
          → cond (leb s.start i) (cond (ltb i s.behind) 1 0) 0 + covers i ss ≡ 1
      go before d (yes b) = absurd (clash (l.0.quiet i b h) t)
      go before (yes a) (no b) =
          let c : i < s.behind = omega arith in
          rw (le-leb s.start i a, lt-ltb i s.behind c, none-cover i s.start ss l.2 a)
      go before (no a) (no b) =
          let c : i < s.start = omega arith in
          rw (lt-leb s.start i c, before c t)

pub covered : (ks : List ℕ) → length ks < 18446744073709551616 → (i : ℕ) → i < length ks → 0 < get_or ks i 0 → covers i (stretches ks) ≡ 1
covered ks room i h t = one-cover (λ i. get_or ks i 0) i (length ks) (stretches ks) (laid ks room) h t
