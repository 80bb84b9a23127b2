-- Lost superframes, and what stays as it was (document 01, "Superframe"; document 02, P7).
--     fresh-in-range, lost-in-range     what is handed back is in range
--     lose-free              a loss that is not refused: the state was in range, and its history had room
--     lose-accepted          and what it is answered
--     lose-keeps-first       a loss leaves the first set of factors to the next superframe, and none behind it
--     lose-is-fresh-else     after a loss all but the first set and the totals is as in the fresh state
--     lose-twice             two losses in a row give the fresh state, but for the totals
--     service-keeps-factors  six service bytes change no factor
-- Assumes nothing.
use mathlib.Core.Path.{◌≡◌, refl}
use mathlib.Core.Bool.{true}
use mathlib.Core.List.{List}
use Prim.Native.Nat.{ℕ}
use native.Mathlib.Omega.{arith}
use Rattle.bits.specs.Table.{every}
use Rattle.std.specs.declared.result.Result.{Result}
use Rattle.std.specs.declared.result.Result.TheVariants.{Ok, Err}
use Rattle.bits.specs.Bits.{all_below}
use Rattle.bits.specs.Refused.{number_in}
use Rattle.bits.specs.declared.refusal.Refusal.{Refusal}
use Rattle.bits.proofs.Tests.{either_way, both, both_right}
use Rattle.service.specs.Service.{searching_service, in_range, served}
use Rattle.service.specs.declared.Service.{Service}
use Rattle.service.specs.declared.Served.{Served}
use Rattle.running.specs.Running.{has_room, no_running, with_lost}
use Rattle.running.proofs.Ranges as running
use Rattle.superframe.specs.State.{missing, factors_of, joined_state, fresh_state, state_in_range, lost_factors, lost_state, lost_with, serviced_from, serviced_with, next_served, after_loss, after_service}
use Rattle.superframe.proofs.Parts.{factors-in-range, running-in-range, joined-in-range}
use Rattle.superframe.specs.declared.state.State.{State}

missing-in-range : all_below 9 missing ≡ true
unfolding all_below every missing
missing-in-range = refl

searching-in-range : in_range searching_service ≡ true
unfolding in_range searching_service
searching-in-range = refl

pub fresh-in-range : state_in_range fresh_state ≡ true
fresh-in-range =
    joined-in-range (record { next = missing; after = missing }) searching_service no_running
    (both _ _ missing-in-range missing-in-range) searching-in-range running.none-in-range

pub lost-in-range : (s : State) → state_in_range s ≡ true → has_room s.totals ≡ true → state_in_range (lost_state s) ≡ true
lost-in-range s h r =
    let known : all_below 9 s.after ≡ true = both_right (all_below 9 s.next) (all_below 9 s.after) (factors-in-range s h) in
    joined-in-range (lost_factors (factors_of s)) searching_service (with_lost s.totals)
    (both _ _ known missing-in-range) searching-in-range (running.lost-in-range s.totals (running-in-range s h) r)

module _ (s : State) (a : number_in (lost_with s) ≡ 0) where
  pub lose-free : (state_in_range s ≡ true) × (has_room s.totals ≡ true)
  unfolding lost_with
  lose-free =
      either_way (state_in_range s)
      (λ t. either_way (has_room s.totals)
      (λ u. (t, u))
      (λ u. let nine : number_in (lost_with s) ≡ 9 = rw (t, u) in absurd (omega (arith, a, nine))))
      (λ t. let two : number_in (lost_with s) ≡ 2 = rw t in absurd (omega (arith, a, two)))

  pub lose-accepted : lost_with s ≡ Ok (lost_state s)
  unfolding lost_with
  lose-accepted = rw (lose-free.0, lose-free.1)

  pub lose-keeps-first : ((after_loss s).next ≡ s.after) × ((after_loss s).after ≡ missing)
  lose-keeps-first = (rw lose-accepted, rw lose-accepted)

  pub lose-is-fresh-else : after_loss s ≡ joined_state (record { next = s.after; after = fresh_state.after }) fresh_state.service (with_lost s.totals)
  lose-is-fresh-else = rw lose-accepted

pub lose-twice : (s : State) → number_in (lost_with s) ≡ 0 → number_in (lost_with (after_loss s)) ≡ 0
    → after_loss (after_loss s) ≡ joined_state (factors_of fresh_state) fresh_state.service (with_lost (with_lost s.totals))
lose-twice s a b = rw (lose-accepted (after_loss s) b, lose-accepted s a)

-- whatever the service answers
factors-kept : (s : State) (r : Result (Served Service) Refusal) → factors_of (next_served s (serviced_from s r)) ≡ factors_of s
factors-kept s (Ok r) = refl
factors-kept s (Err why) = refl

pub service-keeps-factors : (s : State) (six sync : List ℕ) → factors_of (after_service s six sync) ≡ factors_of s
unfolding serviced_with
service-keeps-factors s six sync = either_way (state_in_range s) (λ t. rw t (factors-kept s (served s.service six sync))) (λ t. rw t)
