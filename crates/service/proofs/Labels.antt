-- Labels are handed out (document 01, "Service groups"): from any state in range that searches for labels and has position 1, a separator and the
-- eight groups behind it, all syncs in order, hand out exactly the labels that they spell, with the last six bytes and not before.
--     after-snoc              one step more
--     Along k t               a state t behind the first k superframes of a broadcast: where the machine stands, and what it has gathered
--     group-with, labels-with     what the group and the labels hold once the six bytes of superframe k are taken
--     along-next              one superframe more
--     labels-come             the last six bytes bring the labels, whatever sync is behind them, and labels are searched for anew
--     labels-not-before       none of the 71 superframes before hands out labels
-- Assumes nothing.
use mathlib.Core.Path.{◌≡◌, refl, sym, ap, ◌∙◌}
use mathlib.Core.Logic.{◌⊎◌, inl, inr, ⊎_elim}
use mathlib.Core.Bool.{Bool, true, false, cond}
use mathlib.Core.List.{List, [], ◌∷◌, ◌++◌}
use Prim.Native.Nat.{ℕ, zero, suc, ◌+◌, ◌*◌, ◌/◌, ◌%◌, ◌<◌, ◌≤◌}
use native.Mathlib.Nat.{eq-or-lt_of_le}
use native.Mathlib.Omega.{arith}
use lib.Dec.{eqb, ltb}
use lib.ListN.{get_or}
use borrow.Author.Tests.{lt-ltb, eq-eqb, ne_eqb}
use Rattle.bits.specs.Digits.{Below}
use Rattle.bits.specs.Table.{tabulate, zeros}
use Rattle.bits.proofs.Table.{length-tab, tab-ext, tab-get_or}
use Rattle.service_group.specs.Six.{separates}
use Rattle.service_sync.specs.Sync.{sync1, sync2, is_open}
use Rattle.service.specs.Taking.{take_six, take_sync}
use Rattle.service.specs.Service.{served}
use Rattle.service.specs.Run.{Step, stepped, next_of, after}
use Rattle.std.specs.declared.option.Option.TheVariants.{Some}
use Rattle.std.specs.Result.{IsOkAnd}
use Rattle.service.specs.Broadcast.{sync_behind, step_of, broadcast, channel_of, Separated, labels_of}
use Rattle.service.specs.declared.Service.{Service}
use Rattle.service_sync.specs.declared.Kind.TheVariants.{First, Second}
use Rattle.service_group.proofs.Groups.{channel-kept, channel-comes, zeros-separate, label_kept, label-comes, length-labels, separator-starts, stage-grows, stage-waits}
use Rattle.service_sync.proofs.Syncs.{open-true, open-false}
use Rattle.service.proofs.Machine.{InRange, served-is, served-first, served-second, eighth-ends}
use Rattle.service.proofs.Progress.{NoLabels, soon-none}

pub after-snoc : (xs : List Step) (x : Step) (s : Service) → after s (xs ++ (x ∷ [])) ≡ next_of (after s xs) (stepped (after s xs) x)
unfolding after
after-snoc [] x s = refl
after-snoc (y ∷ xs) x s = after-snoc xs x (next_of s (stepped s y))

pub record Along (sixes : ℕ → List ℕ) (k : ℕ) (t : Service) : Type 0 where
  pub position : t.position ≡ k % 8 + 1
  pub stage : t.stage ≡ k / 8
  pub group : (i : ℕ) → i < 32 → i / 4 < k % 8 → get_or t.group i 0 ≡ channel_of sixes (k / 8) i
  pub labels : (i : ℕ) → i < 256 → i % 8 + 1 < k / 8 → get_or t.labels i 0 ≡ channel_of sixes (i % 8 + 1) (i / 8)

module _ (sixes : ℕ → List ℕ) (k : ℕ) (t : Service) (a : Along sixes k t) where
  pub along-range : k ≤ 71 → InRange t
  along-range h = record { position = omega (arith, a.position); stage = omega (arith, a.stage) }

  pub group-with : (i : ℕ) → i < 32 → i / 4 ≤ k % 8 → get_or (take_six t (sixes k)).group i 0 ≡ channel_of sixes (k / 8) i
  unfolding take_six
  group-with i l h =
      ⊎_elim
      (λ (e : i / 4 ≡ k % 8).
      let here : k ≡ 8 * (k / 8) + i / 4 = omega arith in
      channel-comes t.position t.group (sixes k) i l (omega (arith, a.position)) ∙ ap (λ (n : ℕ). get_or (sixes n) (i % 4) 0) here)
      (λ (u : i / 4 < k % 8). channel-kept t.position t.group (sixes k) i l (omega (arith, a.position)) ∙ a.group i l u)
      (eq-or-lt_of_le h)

  pub labels-with : (i : ℕ) → i < 256 → (i % 8 + 1 < k / 8) ⊎ ((i % 8 + 1 ≡ k / 8) × (k % 8 ≡ 7))
      → get_or (take_six t (sixes k)).labels i 0 ≡ channel_of sixes (i % 8 + 1) (i / 8)
  unfolding take_six
  labels-with i l h =
      let g : List ℕ = (take_six t (sixes k)).group in
      ⊎_elim
      (λ (u : i % 8 + 1 < k / 8). label_kept t.position t.stage t.labels g i l (omega (arith, a.stage)) ∙ a.labels i l u)
      (λ (e : (i % 8 + 1 ≡ k / 8) × (k % 8 ≡ 7)).
      let complete : eqb t.position 8 ≡ true = eq-eqb t.position 8 (omega (arith, a.position)) in
      label-comes t.position t.stage t.labels g i l (omega (arith, a.stage))
      ∙ ap (λ (b : Bool). get_or (cond b g (zeros 32)) (i / 8) 0) complete
      ∙ group-with (i / 8) (omega arith) (omega arith)
      ∙ ap (λ (n : ℕ). channel_of sixes n (i / 8)) (sym e.0))
      h

zero-or-more : (n : ℕ) → (n ≡ 0) ⊎ (0 < n)
zero-or-more zero = inl refl
zero-or-more (suc n) = inr (omega arith)

before-or-at : (n m : ℕ) {A : Type 0} → n ≤ m → A → (n < m) ⊎ ((n ≡ m) × A)
before-or-at n m l x = ⊎_elim (λ (e : n ≡ m). inr (e, x)) (λ (u : n < m). inl u) (eq-or-lt_of_le l)

module _ (sixes : ℕ → List ℕ) (k : ℕ) (t : Service) (a : Along sixes k t) (h : k < 71) where
  -- the labels behind the sync, at the stage x that it leaves
  labels_next : (x : ℕ) → x ≡ suc k / 8 → ((i : ℕ) → i % 8 + 1 < suc k / 8 → (i % 8 + 1 < k / 8) ⊎ ((i % 8 + 1 ≡ k / 8) × (k % 8 ≡ 7)))
      → (i : ℕ) → i < 256 → i % 8 + 1 < suc k / 8 → get_or (cond (ltb 0 x) (take_six t (sixes k)).labels (zeros 256)) i 0 ≡ channel_of sixes (i % 8 + 1) (i / 8)
  labels_next x e came i l u = rw (lt-ltb 0 x (omega arith)) (labels-with sixes k t a i l (came i u))

  -- ---- a superframe inside a group
  inside-next : k % 8 < 7 → next_of t (stepped t (step_of sixes k)) ≡ take_sync Second (take_six t (sixes k))
  inside-next m =
      let behind : sync_behind k ≡ sync2 = rw (ne_eqb (k % 8) 7 (λ e. omega arith)) in
      rw (behind, served-second t (sixes k) (along-range sixes k t a (omega arith)))

  inside : k % 8 < 7 → Along sixes (suc k) (take_sync Second (take_six t (sixes k)))
  unfolding take_sync take_six
  inside m =
      let p : t.position < 8 = omega (arith, a.position) in
      let goes_on : is_open t.position ≡ true = open-true t.position (omega (arith, a.position)) p in
      let waits : (take_six t (sixes k)).stage ≡ t.stage = stage-waits t.position t.stage (take_six t (sixes k)).group p in
      let stays : (take_sync Second (take_six t (sixes k))).stage ≡ suc k / 8 = rw (goes_on, waits) (omega (arith, a.stage)) in
      record {
        position = rw goes_on (omega (arith, a.position));
        stage = stays;
        group = λ i l u.
            rw (goes_on, lt-ltb 1 (t.position + 1) (omega (arith, a.position)))
            (group-with sixes k t a i l (omega arith) ∙ ap (λ (n : ℕ). channel_of sixes n i) (omega arith));
        labels = labels_next _ stays (λ i u. inl (omega arith));
      }

  -- ---- a superframe that completes a group
  ending-next : k % 8 ≡ 7 → next_of t (stepped t (step_of sixes k)) ≡ take_sync First (take_six t (sixes k))
  ending-next m =
      let behind : sync_behind k ≡ sync1 = rw (eq-eqb (k % 8) 7 m) in
      rw (behind, served-first t (sixes k) (along-range sixes k t a (omega arith)))

  separated : Separated sixes → k ≡ 7 → separates (take_six t (sixes k)).group ≡ true
  unfolding take_six
  separated none e =
      let first : k / 8 ≡ 0 = omega arith in
      zeros-separate t.position t.group (sixes k)
      (λ i l. group-with sixes k t a i l (omega arith) ∙ ap (λ (n : ℕ). channel_of sixes n i) first ∙ none i l)

  ended-stage : Separated sixes → k % 8 ≡ 7 → (take_six t (sixes k)).stage ≡ suc k / 8
  unfolding take_six
  ended-stage none m =
      let g : List ℕ = (take_six t (sixes k)).group in
      let p : t.position ≡ 8 = omega (arith, a.position) in
      ⊎_elim
      (λ (e : k / 8 ≡ 0).
      let seven : k ≡ 7 = omega arith in
      let one : 1 ≡ suc k / 8 = omega arith in
      separator-starts t.position t.stage g p (omega (arith, a.stage)) (separated none seven) ∙ one)
      (λ (l : 0 < k / 8).
      let next : t.stage + 1 ≡ suc k / 8 = omega (arith, a.stage) in
      stage-grows t.position t.stage g p (omega (arith, a.stage)) (omega (arith, a.stage)) ∙ next)
      (zero-or-more (k / 8))

  ending : Separated sixes → k % 8 ≡ 7 → Along sixes (suc k) (take_sync First (take_six t (sixes k)))
  unfolding take_sync take_six
  ending none m =
      let closed : is_open t.position ≡ false = open-false t.position (inr (omega (arith, a.position))) in
      let moved : (take_sync First (take_six t (sixes k))).stage ≡ suc k / 8 = rw closed (ended-stage none m) in
      record {
        position = omega arith;
        stage = moved;
        group = λ i l u. let none : ⊥ = omega arith in absurd none;
        labels = labels_next _ moved (λ i u. before-or-at (i % 8 + 1) (k / 8) (omega arith) m);
      }

  pub along-next : Separated sixes → Along sixes (suc k) (next_of t (stepped t (step_of sixes k)))
  along-next none =
      ⊎_elim (λ (m : k % 8 ≡ 7). rw (ending-next m) (ending none m)) (λ (m : k % 8 < 7). rw (inside-next m) (inside m)) (eq-or-lt_of_le (omega arith))

-- what the last six bytes complete
spelt : (sixes : ℕ → List ℕ) (t : Service) → Along sixes 71 t → (take_six t (sixes 71)).labels ≡ labels_of sixes
unfolding take_six
spelt sixes t a =
    tab-get_or 256 (take_six t (sixes 71)).labels 0 (length-labels t.position t.stage t.labels (take_six t (sixes 71)).group)
    ∙ tab-ext 256 (λ i. get_or (take_six t (sixes 71)).labels i 0) (λ i. channel_of sixes (i % 8 + 1) (i / 8))
    (λ i l. labels-with sixes 71 t a i l (before-or-at (i % 8 + 1) (71 / 8) (omega arith) refl))

-- ---- the broadcast
module _ (sixes : ℕ → List ℕ) (s : Service) (h : InRange s) (p : s.position ≡ 1) (t : s.stage ≡ 0) (none : Separated sixes) where
  pub along : (k : ℕ) → k ≤ 71 → Along sixes k (after s (broadcast sixes k))
  unfolding tabulate after
  along zero l =
      record {
        position = p;
        stage = t;
        group = λ i r u. let no : ⊥ = omega arith in absurd no;
        labels = λ i r u. let no : ⊥ = omega arith in absurd no;
      }
  along (suc k) l =
      rw (after-snoc (broadcast sixes k) (step_of sixes k) s)
      (along-next sixes k (after s (broadcast sixes k)) (along k (omega arith)) (omega arith) none)

  pub labels-not-before : (k : ℕ) → k < 71 → NoLabels (stepped (after s (broadcast sixes k)) (step_of sixes k))
  labels-not-before k l = soon-none s h (omega arith) (broadcast sixes k) (rw (length-tab k (step_of sixes)) (omega arith)) (step_of sixes k)

  pub labels-come : (sync : List ℕ) → Below 2 sync
      → IsOkAnd (served (after s (broadcast sixes 71)) (sixes 71) sync) (λ r. (r.labels ≡ Some (labels_of sixes)) × (r.next.stage ≡ 0))
  labels-come sync b =
      let end : Service = after s (broadcast sixes 71) in
      let a : Along sixes 71 end = along 71 (omega arith) in
      let is = served-is end (sixes 71) (along-range sixes 71 end a (omega arith)) sync b in
      let r = eighth-ends end (sixes 71) (along-range sixes 71 end a (omega arith)) sync b a.position a.stage in
      rw is (let q = rw is at r in (q.0 ∙ ap Some (spelt sixes end a), q.1))
