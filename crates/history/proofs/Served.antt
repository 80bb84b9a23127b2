-- The service over calls of `take` (document 01, "Service groups"): the six bytes and the sync of each superframe are bits 12 of its main frames of A.
--     served-next           a superframe that is taken leaves the service as the machine leaves it
--     position-given        its six bytes come with the position that the sync before them gave
--     run-served            so do superframes taken one after the other
--     labels-come, labels-not-before    a separator and eight groups hand out the labels that they spell, with the last superframe and not before
--     none-for-71           where the labels have made no way, the next 71 calls hand out none, taken, lost or refused
--     loss-none, drop-none  behind a loss; behind a dropped group, a dropped Sync 2 or a 7
-- Assumes nothing.
use mathlib.Core.Path.{◌≡◌, refl, sym, ap, subst, ◌∙◌}
use mathlib.Core.Bool.{true}
use mathlib.Core.List.{List}
use Prim.Native.Nat.{ℕ, zero, suc, ◌+◌, ◌<◌, ◌≤◌}
use native.Mathlib.Omega.{arith}
use lib.Dec.{eqb}
use Rattle.std.specs.Result.{IsOkAnd}
use Rattle.std.specs.declared.option.Option.TheVariants.{Some}
use Rattle.std.specs.declared.result.Result.{Result}
use Rattle.std.specs.declared.result.Result.TheVariants.{Ok, Err}
use Rattle.bits.specs.Refused.{number_of, number_in}
use Rattle.bits.specs.declared.refusal.Refusal.{Refusal}
use Rattle.bits.specs.Table.{tabulate}
use Rattle.bits.proofs.Table.{tab-ext}
use Rattle.bits.proofs.Tests.{either_way}
use Rattle.service_sync.specs.Sync.{kind_of, next_position, drops_with}
use Rattle.service.specs.Service.{searching_service}
use Rattle.service.specs.Taking.{take_sync, take_six}
use Rattle.service.specs.Run.{stepped, next_of, after}
use Rattle.service.specs.Broadcast.{sync_behind, step_of, broadcast, Separated, labels_of}
use Rattle.service.specs.declared.Service.{Service}
use Rattle.service.proofs.Progress as progress
use Rattle.service.proofs.Labels as machine
use Rattle.superframe.specs.State.{state_in_range, lost_state}
use Rattle.superframe.specs.Take.{taking, beside_with, take_answer, outcome, next_state, handed}
use Rattle.running.specs.Running.{has_room}
use Rattle.superframe.proofs.Refusals as of
use Rattle.superframe.specs.declared.state.State.{State}
use Rattle.history.specs.Calls.{Call, Accepted, LostIn, Calls, step_in, LabelsNone}
use Rattle.superframe.proofs.Served as sent
use Rattle.superframe.proofs.Served.{sync-below}
use Rattle.history.proofs.Loss.{lost-in-range}
use Rattle.history.proofs.Ranges.{service-fact, take-in-range}
use Rattle.history.proofs.Answers.{answer-is, accepted-is, accepted-in-range}
use Rattle.history.proofs.Ahead.{lost-state}

-- ---- one call
module _ (s : State) (k : Call s) where
  pub served-next : Accepted k → (next_state k.answer).service ≡ next_of s.service (stepped s.service (step_in k))
  unfolding beside_with
  served-next z = rw (accepted-is s k z, sent.accepted-is s k.bytes (accepted-in-range s k z))

  pub position-kept : Accepted k → (handed k.answer).position ≡ s.service.position
  unfolding beside_with
  position-kept z = rw (accepted-is s k z)

  next-position : Accepted k → (next_state k.answer).service.position ≡ next_position (kind_of (step_in k).sync) s.service.position
  unfolding beside_with take_sync take_six
  next-position z = rw (accepted-is s k z)

pub position-given : (s : State) (first : Call s) (second : Call (next_state first.answer)) → Accepted first → Accepted second
    → (handed second.answer).position ≡ next_position (kind_of (step_in first).sync) s.service.position
position-given s first second a b = position-kept (next_state first.answer) second b ∙ next-position s first a

-- ---- how far the labels are, over any call
none-handed : (s : State) (k : Call s) → progress.progress s.service < 72 → LabelsNone k
unfolding beside_with
none-handed s k h = by-outcome (outcome k.answer) refl
  where
    by-outcome : (o : Result Unit Refusal) → outcome k.answer ≡ o → LabelsNone k
    by-outcome (Ok _) e =
        let z : Accepted k = ap number_in e in
        let far = progress.far_none s.service (step_in k) h in
        record { labels = rw (accepted-is s k z) (rw (sent.accepted-is s k.bytes (accepted-in-range s k z)) at far) }
    by-outcome (Err why) e = record { labels = rw (answer-is s k (Err why) e) }

further : (o : Result Unit Refusal) (s : State) (k : Call s) → state_in_range s ≡ true
    → progress.progress (next_state (take_answer k.radius o s k.bytes)).service ≤ progress.progress s.service + 1
unfolding beside_with searching_service
further (Ok _) s k h =
    let m = (progress.step-moved s.service (step_in k) (service-fact s h)).further in
    rw (sent.accepted-is s k.bytes h) at m
further (Err why) s k h = either_way (eqb (number_of why) 3) (λ u. rw u (omega arith)) (λ u. rw u (omega arith))

-- ---- calls one after the other
module _ (state : ℕ → State) (calls : Calls state) where
  abbrev sixes : ℕ → List ℕ
  sixes n = (step_in (calls.call n)).six

  pub run-served : (n : ℕ) → ((i : ℕ) → i < n → Accepted (calls.call i)) → (state n).service ≡ after (state 0).service (tabulate n (λ i. step_in (calls.call i)))
  unfolding tabulate after
  run-served zero h = refl
  run-served (suc n) h =
      ap (λ (s : State). s.service) (calls.next n) ∙ served-next (state n) (calls.call n) (h n (omega arith))
      ∙ ap (λ (v : Service). next_of v (stepped v (step_in (calls.call n)))) (run-served n (λ i l. h i (omega arith)))
      ∙ sym (machine.after-snoc (tabulate n (λ i. step_in (calls.call i))) (step_in (calls.call n)) (state 0).service)

  in-range : state_in_range (state 0) ≡ true → (n : ℕ) → state_in_range (state n) ≡ true
  in-range h zero = h
  in-range h (suc n) = rw (calls.next n) (take-in-range (state n) (calls.call n) (in-range h n))

  module _ (h : state_in_range (state 0) ≡ true) (start : progress.progress (state 0).service ≤ 1) where
    along : (n : ℕ) → progress.progress (state n).service ≤ 1 + n
    along zero = start
    along (suc n) =
        let k = calls.call n in
        let m = further (taking k.radius (state n) k.bytes k.lent-samples k.lent-marks) (state n) k (in-range h n) in
        rw (calls.next n, k.took.answer) (omega (arith, m, along n))

    pub none-for-71 : (n : ℕ) → n ≤ 70 → LabelsNone (calls.call n)
    none-for-71 n l = none-handed (state n) (calls.call n) (omega (arith, along n))

  -- a separator and eight groups, every superframe taken and every sync in order
  module _ (taken : (n : ℕ) → n ≤ 71 → Accepted (calls.call n)) (syncs : (n : ℕ) → n < 71 → (step_in (calls.call n)).sync ≡ sync_behind n)
      (p : (state 0).service.position ≡ 1) (t : (state 0).service.stage ≡ 0) (none : Separated sixes) where
    ranged : state_in_range (state 0) ≡ true
    ranged = accepted-in-range (state 0) (calls.call 0) (taken 0 (omega arith))

    pub labels-not-before : (n : ℕ) → n < 71 → LabelsNone (calls.call n)
    labels-not-before n l = none-for-71 ranged (omega arith) n (omega arith)

    before : (state 71).service ≡ after (state 0).service (broadcast sixes 71)
    before =
        run-served 71 (λ i l. taken i (omega arith))
        ∙ ap (after (state 0).service)
        (tab-ext 71 (λ i. step_in (calls.call i)) (step_of sixes) (λ i l. ap (λ (sync : List ℕ). record { six = sixes i; sync = sync }) (syncs i l)))

    pub labels-come : ((handed (calls.call 71).answer).labels ≡ Some (labels_of sixes)) × ((next_state (calls.call 71).answer).service.stage ≡ 0)
    unfolding beside_with
    labels-come =
        let k = calls.call 71 in
        let z = taken 71 (omega arith) in
        let come = machine.labels-come sixes (state 0).service (service-fact (state 0) ranged) p t none (step_in k).sync (sync-below k.bytes) in
        let here : IsOkAnd (stepped (state 71).service (step_in k)) (λ r. (r.labels ≡ Some (labels_of sixes)) × (r.next.stage ≡ 0)) = rw before come in
        rw (accepted-is (state 71) k z) (rw (sent.accepted-is (state 71) k.bytes (accepted-in-range (state 71) k z)) at here)

-- ---- what sets the labels back
module _ (s : State) (k : Call s) (z : LostIn k) where
  pub lost-range : state_in_range s ≡ true
  lost-range =
      of.ranged k.radius s k.bytes k.lent-samples k.lent-marks k.answer k.samples k.marks k.took
      (λ e. omega (arith, z, e)) (λ e. omega (arith, z, e))

  pub lost-room : has_room s.totals ≡ true
  lost-room =
      of.roomy k.radius s k.bytes k.lent-samples k.lent-marks k.answer k.samples k.marks k.took
      (λ e. omega (arith, z, e)) (λ e. omega (arith, z, e)) (λ e. omega (arith, z, e))

pub loss-none : (state : ℕ → State) (calls : Calls state) (s : State) (k : Call s) → LostIn k → state 0 ≡ next_state k.answer → (n : ℕ) → n ≤ 70 → LabelsNone (calls.call n)
unfolding searching_service
loss-none state calls s k z e =
    let first : state 0 ≡ lost_state s = e ∙ lost-state s k z in
    none-for-71 state calls (rw first (lost-in-range s (lost-range s k z) (lost-room s k z))) (rw first (omega arith))

pub drop-none : (state : ℕ → State) (calls : Calls state) (s : State) (k : Call s) → Accepted k → drops_with (kind_of (step_in k).sync) s.service.position ≡ true
    → state 0 ≡ next_state k.answer → (n : ℕ) → n ≤ 70 → LabelsNone (calls.call n)
drop-none state calls s k z d e =
    let h = accepted-in-range s k z in
    let reset = progress.drop-resets s.service (step_in k).six (step_in k).sync (service-fact s h) (sync-below k.bytes) d in
    none-for-71 state calls (rw e (take-in-range s k h)) (subst (λ (v : Service). progress.progress v ≤ 1) (sym (ap (λ (s : State). s.service) e ∙ served-next s k z)) reset)
