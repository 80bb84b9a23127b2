-- What the reader's methods do to the running totals, in document 02's words (P7).
--     take-counts       a superframe that is taken adds its blocks, as they were read at its radius, for two programmes each
--     take-loses        one that is lost so "adds to the lost number only"
--     take-adds-nothing     "a call with refusal 1, 2 or 9 adds nothing"
--     lose-counts       so does one that is lost without bytes, unless it is refused
--     lose-adds-nothing
--     service-counts    six service bytes add nothing
-- Assumes nothing.
use mathlib.Core.Path.{◌≡◌, refl, ap}
use mathlib.Core.Logic.{◌⊎◌, ◌≢◌}
use mathlib.Core.List.{List}
use Prim.Native.Nat.{ℕ}
use native.Mathlib.Omega.{arith}
use lib.IntN.{ℤ}
use Rattle.std.specs.declared.result.Result.{Result}
use Rattle.std.specs.declared.result.Result.TheVariants.{Ok, Err}
use Rattle.bits.specs.Refused.{number_in}
use Rattle.bits.specs.declared.refusal.Refusal.{Refusal}
use Rattle.bits.specs.declared.refusal.Refusal.TheVariants.{Sync}
use Rattle.bits.proofs.Tests.{either_way}
use Rattle.service.specs.Service.{served}
use Rattle.service.specs.declared.Service.{Service}
use Rattle.service.specs.declared.Served.{Served}
use Rattle.tape.specs.Tape.{blocks_of}
use Rattle.running.specs.Running.{has_room}
use Rattle.running.specs.Document.{TakenAdds, LostAdds}
use Rattle.running.proofs.Adds.{taken-adds, lost-adds}
use Rattle.superframe.specs.State.{state_in_range, lost_with, serviced_from, serviced_with, next_served, after_loss, after_service}
use Rattle.superframe.specs.Take.{beside_with, number_told, handed, next_state, Took}
use Rattle.superframe.specs.declared.state.State.{State}
use Rattle.superframe.specs.declared.taking.Taken.{Taken}
use Rattle.superframe.specs.declared.taking.NotTaken.{NotTaken}
use Rattle.superframe.proofs.Refusals.{state-is, take-refuses, lose-refuses}
use Rattle.superframe.proofs.Serving.{taken-answer}

module _ (radius : ℕ) (s : State) (sf : List ℕ) (samples : List ℤ) (marks : List ℕ) (r : Result Taken NotTaken) (samples' : List ℤ) (marks' : List ℕ) (t : Took radius s sf samples marks r samples' marks') where
  pub take-counts : number_told r ≡ 0 → ((handed r).blocks ≡ blocks_of radius sf) × TakenAdds s.totals (handed r).blocks (next_state r).totals
  unfolding beside_with
  take-counts z = rw (taken-answer radius s sf samples marks r samples' marks' t z) (refl, taken-adds s.totals (blocks_of radius sf))

  pub take-loses : number_told r ≡ 3 → LostAdds s.totals (next_state r).totals
  take-loses z = rw (state-is radius s sf samples marks r samples' marks' t Sync z) (lost-adds s.totals)

  pub take-adds-nothing : (number_told r ≡ 1) ⊎ ((number_told r ≡ 2) ⊎ (number_told r ≡ 9)) → (next_state r).totals ≡ s.totals
  take-adds-nothing z = ap (λ (s : State). s.totals) ((take-refuses radius s sf samples marks r samples' marks' t).given z)

-- whatever the service answers
served-adds-nothing : (s : State) (r : Result (Served Service) Refusal) → (next_served s (serviced_from s r)).totals ≡ s.totals
served-adds-nothing s (Ok r) = refl
served-adds-nothing s (Err why) = refl

module _ (s : State) where
  pub lose-counts : number_in (lost_with s) ≡ 0 → LostAdds s.totals (after_loss s).totals
  unfolding lost_with
  lose-counts =
      either_way (state_in_range s)
      (λ t. either_way (has_room s.totals) (λ u. rw (t, u) (λ _. lost-adds s.totals)) (λ u. rw (t, u) (λ e. absurd (omega (arith, e)))))
      (λ t. rw t (λ e. absurd (omega (arith, e))))

  pub lose-adds-nothing : number_in (lost_with s) ≢ 0 → (after_loss s).totals ≡ s.totals
  lose-adds-nothing h = ap (λ (s : State). s.totals) ((lose-refuses s).given h)

  pub service-counts : (six sync : List ℕ) → (after_service s six sync).totals ≡ s.totals
  unfolding serviced_with
  service-counts six sync =
      either_way (state_in_range s) (λ t. rw t (served-adds-nothing s (served s.service six sync))) (λ t. rw t)
