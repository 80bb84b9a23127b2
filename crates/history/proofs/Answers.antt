-- What a call of `take` can answer, whatever it was given.
--     numbered, told, answer-is     the number, what is refused, and the answer by that
--     was-taken, was-lost   of a superframe that is taken nothing is refused, and one is lost for its sync
--     accepted-is, lost-is  what a superframe that is taken is answered, and one that is lost
--     accepted-in-range     a superframe is accepted from a state in range only
--     service-number        the service answers 0 or 7, and no other number
--     programme-number      each programme 0 or 5
--     counted_same          the number, the wrong sync bits and the readings of a superframe that is taken or lost are those that counting gives, without a state
-- Assumes nothing.
use mathlib.Core.Path.{◌≡◌, refl, sym, ap, ◌∙◌}
use mathlib.Core.Logic.{◌⊎◌, inl, inr, ⊎_elim}
use mathlib.Core.Bool.{true, ◌&&◌}
use mathlib.Core.List.{List}
use Prim.Native.Nat.{ℕ, ◌<◌, ◌≤◌}
use native.Mathlib.Omega.{arith}
use lib.Dec.{eqb}
use lib.IntN.{ℤ}
use lib.ListN.{length, get_or, get_or-replicate}
use Rattle.std.specs.declared.result.Result.{Result}
use Rattle.std.specs.declared.result.Result.TheVariants.{Ok, Err}
use Rattle.bits.specs.Refused.{number_in}
use Rattle.bits.specs.declared.refusal.Refusal.{Refusal}
use Rattle.bits.specs.declared.refusal.Refusal.TheVariants.{Sync}
use Rattle.bits.proofs.Refused.{unrefused}
use Rattle.bits.proofs.Table.{get_or-tab}
use Rattle.bits.proofs.Tests.{either_way, both_true}
use Rattle.service_sync.specs.Sync.{number_of}
use Rattle.service_sync.specs.declared.Kind.{Kind}
use Rattle.service_sync.specs.declared.Kind.TheVariants.{First, Second, Neither}
use Rattle.reading.specs.Reading.{ordinary, largest_radius}
use Rattle.reading.proofs.Radius.{chosen-small}
use Rattle.tape.specs.Tape.{synced, wrong_bits, blocks_of, wrong_told, blocks_told, sync_number, syncs_of, counts_of}
use Rattle.tape.proofs.Tape.{syncs-number, syncs-known}
use Rattle.running.specs.Running.{has_room}
use Rattle.sound.specs.Sound.{lengths_fit}
use Rattle.beside.specs.Beside.{extra_of, number_at, programmes_of}
use Rattle.superframe.specs.State.{state_in_range}
use Rattle.superframe.specs.Take.{takable, taking, take_number, beside_with, no_programmes, refused_with, take_answer, outcome, number_told, handed}
use Rattle.superframe.proofs.Refusals as of
use Rattle.superframe.proofs.Took.{refused-by}
use Rattle.superframe.proofs.Serving.{taken-range, taken-radius, taken-answer}
use Rattle.superframe.specs.declared.state.State.{State}
use Rattle.history.specs.Calls.{Call, Accepted, LostIn}
use Rattle.history.proofs.Carries.{number_small}

-- ---- the service
kind-number : (k : Kind) → (number_of k ≡ 0) ⊎ (number_of k ≡ 7)
kind-number First = inl refl
kind-number Second = inl refl
kind-number Neither = inr refl

-- ---- the programmes
answer-programme : (radius : ℕ) (o : Result Unit Refusal) (s : State) (sf : List ℕ) (q : ℕ) → q < 16
    → (get_or (handed (take_answer radius o s sf)).programmes.numbers q 0 ≡ 0) ⊎ (get_or (handed (take_answer radius o s sf)).programmes.numbers q 0 ≡ 5)
unfolding beside_with programmes_of no_programmes
answer-programme radius (Ok _) s sf q l = rw (get_or-tab 16 (number_at sf) q 0 l) (number_small (extra_of sf q).factors)
answer-programme radius (Err why) s sf q l = rw (get_or-replicate {A = ℕ} 16 q 0 0 l) (inl refl)

-- ---- counting
superframe-fits : (n m k : ℕ) → lengths_fit n m k ≡ true → eqb n 5120 ≡ true
unfolding lengths_fit
superframe-fits n m k t = (both_true (eqb n 5120) (eqb m 2048 && eqb k 2048) t).0

sync-number : (radius : ℕ) (s : State) (sf : List ℕ) (samples : List ℤ) (marks : List ℕ) →
    (take_number radius s sf samples marks ≡ 0) ⊎ (take_number radius s sf samples marks ≡ 3) → sync_number sf ≡ take_number radius s sf samples marks
unfolding taking sync_number
sync-number radius s sf samples marks e =
    either_way (lengths_fit (length sf) (length samples) (length marks))
    (λ t. either_way (takable radius s)
    (λ u. either_way (has_room s.totals)
    (λ v. either_way (synced sf)
    (λ w. rw (superframe-fits (length sf) (length samples) (length marks) t, t, u, v, w))
    (λ w. rw (superframe-fits (length sf) (length samples) (length marks) t, t, u, v, w)))
    (λ v. let z : take_number radius s sf samples marks ≡ 9 = rw (t, u, v) in absurd (⊎_elim (λ e. omega arith) (λ e. omega arith) e)))
    (λ u. let z : take_number radius s sf samples marks ≡ 2 = rw (t, u) in absurd (⊎_elim (λ e. omega arith) (λ e. omega arith) e)))
    (λ t. let z : take_number radius s sf samples marks ≡ 1 = rw t in absurd (⊎_elim (λ e. omega arith) (λ e. omega arith) e))

-- ---- a call
module _ (s : State) (k : Call s) where
  abbrev number : ℕ
  number = take_number k.radius s k.bytes k.lent-samples k.lent-marks

  abbrev refused : Result Unit Refusal
  refused = taking k.radius s k.bytes k.lent-samples k.lent-marks

  pub numbered : number ≡ number_told k.answer
  numbered = of.numbered k.radius s k.bytes k.lent-samples k.lent-marks k.answer k.samples k.marks k.took

  pub told : outcome k.answer ≡ refused
  told = of.told k.radius s k.bytes k.lent-samples k.lent-marks k.answer k.samples k.marks k.took

  pub answer-is : (o : Result Unit Refusal) → outcome k.answer ≡ o → k.answer ≡ take_answer k.radius o s k.bytes
  answer-is o e = k.took.answer ∙ ap (λ (o : Result Unit Refusal). take_answer k.radius o s k.bytes) (sym told ∙ e)

  pub was-taken : Accepted k → outcome k.answer ≡ Ok tt
  was-taken z = (unrefused (outcome k.answer) z).1

  pub was-lost : LostIn k → outcome k.answer ≡ Err Sync
  was-lost = refused-by (outcome k.answer) Sync

  pub accepted-is : Accepted k → k.answer ≡ Ok (beside_with s k.bytes (wrong_bits k.bytes) (blocks_of k.radius k.bytes))
  accepted-is = taken-answer k.radius s k.bytes k.lent-samples k.lent-marks k.answer k.samples k.marks k.took

  pub lost-is : LostIn k → k.answer ≡ Err (refused_with Sync s)
  lost-is z = answer-is (Err Sync) (was-lost z)

  pub accepted-in-range : Accepted k → state_in_range s ≡ true
  accepted-in-range = taken-range k.radius s k.bytes k.lent-samples k.lent-marks k.answer k.samples k.marks k.took

  pub accepted-radius : Accepted k → k.radius ≤ largest_radius
  accepted-radius z =
      chosen-small k.radius (taken-radius k.radius s k.bytes k.lent-samples k.lent-marks k.answer k.samples k.marks k.took z)

  pub service-number : (number_of (handed k.answer).kind ≡ 0) ⊎ (number_of (handed k.answer).kind ≡ 7)
  service-number = kind-number (handed k.answer).kind

  pub programme-number : (q : ℕ) → q < 16 → (get_or (handed k.answer).programmes.numbers q 0 ≡ 0) ⊎ (get_or (handed k.answer).programmes.numbers q 0 ≡ 5)
  programme-number q l = rw k.took.answer (answer-programme k.radius refused s k.bytes q l)

  same-number : Accepted k ⊎ LostIn k → number_in (syncs_of k.bytes) ≡ number_told k.answer
  same-number e =
      syncs-number k.bytes
      ∙ sync-number k.radius s k.bytes k.lent-samples k.lent-marks (⊎_elim (λ z. inl (numbered ∙ z)) (λ z. inr (numbered ∙ z)) e)
      ∙ numbered

  abbrev CountedSame : Type 0
  CountedSame =
      (number_told k.answer ≡ number_in (counts_of k.bytes))
      × ((handed k.answer).wrong ≡ wrong_told (counts_of k.bytes))
      × (k.radius ≡ ordinary → (handed k.answer).blocks ≡ blocks_told (counts_of k.bytes))

  taken-same : Accepted k → CountedSame
  unfolding beside_with counts_of
  taken-same z =
      let w = unrefused (syncs_of k.bytes) (same-number (inl z) ∙ z) in
      rw (accepted-is z, w.1) (refl, sym (syncs-known k.bytes w.0 w.1).1, λ e. ap (λ (r : ℕ). blocks_of r k.bytes) e)

  lost-same : LostIn k → CountedSame
  unfolding counts_of
  lost-same z =
      let w = refused-by (syncs_of k.bytes) Sync (same-number (inr z) ∙ z) in
      rw (lost-is z, w) (refl, refl, λ e. refl)

  pub counted_same :
      Accepted k ⊎ LostIn k →
      (number_told k.answer ≡ number_in (counts_of k.bytes))
      × ((handed k.answer).wrong ≡ wrong_told (counts_of k.bytes))
      × (k.radius ≡ ordinary → (handed k.answer).blocks ≡ blocks_told (counts_of k.bytes))
  counted_same = ⊎_elim taken-same lost-same
