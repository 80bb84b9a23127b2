-- A state in range stays in range, whatever is done with it.
--     service-fact          the state's service part, in its own range
--     serviced-is, next-is  an accepted step of the service is the machine's
--     lose-in-range         after a loss, or one that is refused
--     service-keeps-range   after six service bytes
--     reset-in-range        after a reset
--     take-in-range         after a superframe, taken, refused or lost
-- Assumes nothing.
use mathlib.Core.Path.{◌≡◌, refl}
use mathlib.Core.Bool.{true}
use mathlib.Core.Logic.{◌⊎◌, inl, inr, ⊎_elim}
use mathlib.Core.List.{List}
use Prim.Native.Nat.{ℕ}
use native.Mathlib.Omega.{arith}
use borrow.Author.Tests.{eqb-true}
use lib.Dec.{eqb}
use Rattle.std.specs.declared.result.Result.{Result}
use Rattle.std.specs.declared.result.Result.TheVariants.{Ok, Err}
use Rattle.bits.specs.Table.{tabulate}
use Rattle.bits.specs.Refused.{number_of, number_in}
use Rattle.bits.specs.declared.refusal.Refusal.{Refusal}
use Rattle.bits.specs.Bits.{all_below}
use Rattle.bits.proofs.Tests.{either_way, both, both_right}
use Rattle.bits.proofs.Digits.{below-tab}
use Rattle.bits.proofs.Bits.{below_all}
use Rattle.service.specs.Service.{in_range, served}
use Rattle.service.specs.Run.{Step, stepped, next_of}
use Rattle.service.specs.declared.Service.{Service}
use Rattle.service.specs.declared.Served.{Served}
use Rattle.service.proofs.Machine.{InRange, in-range-true, in-range-fact}
use Rattle.service.proofs.Progress as progress
use Rattle.beside.specs.Beside.{factor_read, programmes_of, six_and_sync}
use Rattle.tape.specs.Tape.{blocks_of}
use Rattle.tape.proofs.Positions.{blocks-all}
use Rattle.running.specs.Running.{has_room, no_running, with_taken}
use Rattle.running.proofs.Ranges as running
use Rattle.superframe.specs.State.{factors_of, joined_state, state_in_range, lost_with, serviced_from, serviced_with, next_served, reset_with, after_loss, after_reset}
use Rattle.superframe.specs.Take.{taking, take_number, taken_factors, served_in, beside_with, take_answer, next_state}
use Rattle.superframe.specs.declared.state.State.{State}
use Rattle.history.specs.Run.{taken}
use Rattle.history.specs.Calls.{Call}
use Rattle.superframe.proofs.Parts.{factors-in-range, service-in-range, running-in-range, joined-in-range}
use Rattle.superframe.proofs.Served.{accepted-is}
use Rattle.superframe.proofs.Refusals as of
use Rattle.history.proofs.Loss.{lost-in-range}
use Rattle.history.proofs.Carries.{factor-small}

pub service-fact : (s : State) → state_in_range s ≡ true → InRange s.service
service-fact s h = in-range-fact s.service (service-in-range s h)

machine-in-range : (s : State) (x : Step) → state_in_range s ≡ true → in_range (next_of s.service (stepped s.service x)) ≡ true
machine-in-range s x h = in-range-true _ (progress.step-moved s.service x (service-fact s h)).range

pub lose-in-range : (s : State) → state_in_range s ≡ true → state_in_range (after_loss s) ≡ true
unfolding lost_with
lose-in-range s h = either_way (has_room s.totals) (λ r. rw (h, r) (lost-in-range s h r)) (λ r. rw (h, r) h)

pub reset-in-range : (s : State) → state_in_range s ≡ true → state_in_range (after_reset s) ≡ true
unfolding reset_with
reset-in-range s h = rw h (joined-in-range (factors_of s) s.service no_running (factors-in-range s h) (service-in-range s h) running.none-in-range)

pub serviced-is : (s : State) (six sync : List ℕ) → state_in_range s ≡ true → serviced_with s six sync ≡ serviced_from s (served s.service six sync)
unfolding serviced_with
serviced-is s six sync h = rw h

-- whatever the service answers, it is a step of the machine
pub next-is : (s : State) (r : Result (Served Service) Refusal) → next_served s (serviced_from s r) ≡ joined_state (factors_of s) (next_of s.service r) s.totals
next-is s (Ok r) = refl
next-is s (Err why) = refl

pub service-keeps-range : (s : State) (x : Step) → state_in_range s ≡ true → state_in_range (next_served s (taken s x)) ≡ true
service-keeps-range s x h =
    rw (serviced-is s x.six x.sync h, next-is s (stepped s.service x))
    (joined-in-range (factors_of s) (next_of s.service (stepped s.service x)) s.totals (factors-in-range s h) (machine-in-range s x h) (running-in-range s h))

-- ---- a superframe
factors-known : (s : State) (sf : List ℕ) → state_in_range s ≡ true → (all_below 9 s.after ≡ true) × (all_below 9 (programmes_of sf).factors ≡ true)
unfolding programmes_of
factors-known s sf h = (
  both_right (all_below 9 s.next) (all_below 9 s.after) (factors-in-range s h),
  below_all 9 (tabulate 32 (factor_read sf)) (below-tab 9 32 (factor_read sf) (λ c l. factor-small sf c)),
)

-- with room in the history where a superframe is taken or lost
answer-in-range : (radius : ℕ) (o : Result Unit Refusal) (s : State) (sf : List ℕ) → state_in_range s ≡ true → ((number_in o ≡ 0) ⊎ (number_in o ≡ 3) → has_room s.totals ≡ true)
    → state_in_range (next_state (take_answer radius o s sf)) ≡ true
unfolding beside_with
answer-in-range radius (Ok _) s sf h room =
    let x : Step = record { six = (six_and_sync sf).six; sync = (six_and_sync sf).sync } in
    let known = factors-known s sf h in
    let counted = running.taken-in-range s.totals (running-in-range s h) (room (inl refl)) (blocks_of radius sf) (record { all = blocks-all radius sf }) in
    let service : in_range (served_in s sf).next ≡ true = rw (accepted-is s sf h) at (machine-in-range s x h) in
    joined-in-range (taken_factors s sf) (served_in s sf).next (with_taken s.totals (blocks_of radius sf)) (both _ _ known.0 known.1) service counted
answer-in-range radius (Err why) s sf h room =
    either_way (eqb (number_of why) 3)
    (λ u. rw u (lost-in-range s h (room (inr (eqb-true (number_of why) 3 u)))))
    (λ u. rw u h)

module _ (s : State) (k : Call s) where
  abbrev number : ℕ
  number = take_number k.radius s k.bytes k.lent-samples k.lent-marks

  abbrev refused : Result Unit Refusal
  refused = taking k.radius s k.bytes k.lent-samples k.lent-marks

  room_there : (number ≡ 0) ⊎ (number ≡ 3) → has_room s.totals ≡ true
  room_there e =
      let same = of.numbered k.radius s k.bytes k.lent-samples k.lent-marks k.answer k.samples k.marks k.took in
      of.roomy k.radius s k.bytes k.lent-samples k.lent-marks k.answer k.samples k.marks k.took
      (λ z. ⊎_elim (λ e. omega (arith, same, z, e)) (λ e. omega (arith, same, z, e)) e)
      (λ z. ⊎_elim (λ e. omega (arith, same, z, e)) (λ e. omega (arith, same, z, e)) e)
      (λ z. ⊎_elim (λ e. omega (arith, same, z, e)) (λ e. omega (arith, same, z, e)) e)

  pub take-in-range : state_in_range s ≡ true → state_in_range (next_state k.answer) ≡ true
  take-in-range h = rw k.took.answer (answer-in-range k.radius refused s k.bytes h room_there)
