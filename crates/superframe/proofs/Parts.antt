-- The parts of a state in range, and a state from parts that are: `factors-in-range`, `service-in-range`, `running-in-range`, `joined-in-range`;
-- and a loss, by what the totals answer to it: `lost-is`.
-- Assumes nothing.
use mathlib.Core.Path.{◌≡◌}
use mathlib.Core.Bool.{true, false, cond}
use Rattle.std.specs.declared.result.Result.{Result}
use Rattle.std.specs.declared.result.Result.TheVariants.{Ok, Err}
use Rattle.bits.specs.declared.refusal.Refusal.{Refusal}
use Rattle.bits.proofs.Tests.{either_way, both, both_left, both_right}
use Rattle.service.specs.Service.{in_range, searching_service}
use Rattle.service.specs.declared.Service.{Service}
use Rattle.running.specs.Running.{running_in_range, has_room, allowed, stepped_to, lost_step}
use Rattle.running.specs.declared.Running.{Running}
use Rattle.superframe.specs.State.{missing, Factors, factors_of, joined_state, factors_in_range, state_in_range, lost_with}
use Rattle.superframe.specs.declared.state.State.{State}

module _ (s : State) (h : state_in_range s ≡ true) where
  pub factors-in-range : factors_in_range (factors_of s) ≡ true
  unfolding state_in_range
  factors-in-range = both_left (factors_in_range (factors_of s)) _ h

  others : cond (in_range s.service) (running_in_range s.totals) false ≡ true
  unfolding state_in_range
  others = both_right (factors_in_range (factors_of s)) _ h

  pub service-in-range : in_range s.service ≡ true
  service-in-range = both_left (in_range s.service) (running_in_range s.totals) others

  pub running-in-range : running_in_range s.totals ≡ true
  running-in-range = both_right (in_range s.service) (running_in_range s.totals) others

pub joined-in-range : (f : Factors) (v : Service) (t : Running) → factors_in_range f ≡ true → in_range v ≡ true → running_in_range t ≡ true
    → state_in_range (joined_state f v t) ≡ true
unfolding state_in_range
joined-in-range f v t p q r = both (factors_in_range f) _ p (both (in_range v) (running_in_range t) q r)

-- the state behind a loss, by the totals behind it
abbrev pub lost-by : State → Result Running Refusal → Result State Refusal
lost-by s (Ok t) = Ok (record { next = s.after; after = missing; service = searching_service; totals = t })
lost-by s (Err why) = Err why

pub lost-is : (s : State) → state_in_range s ≡ true → lost_with s ≡ lost-by s (lost_step s.totals)
unfolding lost_with lost_step stepped_to allowed
lost-is s h =
    let good = running-in-range s h in
    either_way (has_room s.totals) (λ t. rw (h, t, good)) (λ t. rw (h, t, good))
