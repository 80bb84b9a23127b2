-- The reader's state (document 01, "Superframe"; document 02, P7), part by part: the factors, the service, the running totals.
--     missing               a set of factors that is missing: 8 for each of 32 channels
--     Factors, factors_of    the two sets of a state: for the next superframe, and for the one after it
--     joined_state f v t     the state with these parts: factors, where the service machine stands, running totals
--     fresh_state            both sets missing, the service searching, nothing counted
--     state_in_range s        each number in its range:
--                               next, after    0 to 8 each
--                               service        position and stage 0 to 8, any bytes
--                               totals         as running totals are
--     lost_factors, lost_state      after a lost superframe: the factors move on by one, "missing" behind; the service searches; it is counted as lost
--     lost_with s            the answer to a loss: number 2 where the state is out of range, 9 where its history is full
--     serviced_with s six sync     the answer to six service bytes and a sync; the factors and the totals are as given. Number 2 where the state is out of range
--                            or an entry of the sync is no bit
--     after_service s six sync     the state behind it: where it is refused, the one given
--     reset_state s          after a reset: a new history, and all else as given
--     reset_with s           the answer to it; number 2 where the state is out of range
--     after_loss, after_reset s     the state that a caller goes on with behind a loss, and behind a reset: where that is refused, the one given
use Rattle.std.specs.Prelude.{ℕ, Bool, false, cond, List, replicate, Result, Ok, Err}
use Rattle.std.specs.Result.{result_unwrap_or}
use Rattle.bits.specs.Bits.{all_below}
use Rattle.bits.specs.declared.refusal.Refusal.{Refusal}
use Rattle.bits.specs.declared.refusal.Refusal.TheVariants.{Range, Full}
use Rattle.service.specs.Service.{searching_service, in_range, served}
use Rattle.service.specs.declared.Service.{Service}
use Rattle.service.specs.declared.Served.{Served}
use Rattle.running.specs.Running.{running_in_range, has_room, no_running, with_lost}
use Rattle.running.specs.declared.Running.{Running}
use Rattle.superframe.specs.declared.state.State.{State}

unfoldable pub missing : List ℕ
missing = replicate 32 8

pub record Factors : Type 0 where
  pub next : List ℕ
  pub after : List ℕ

abbrev pub factors_of : State → Factors
factors_of s = record { next = s.next; after = s.after }

abbrev pub joined_state : Factors → Service → Running → State
joined_state f v t = record { next = f.next; after = f.after; service = v; totals = t }

abbrev pub fresh_state : State
fresh_state = joined_state (record { next = missing; after = missing }) searching_service no_running

abbrev pub factors_in_range : Factors → Bool
factors_in_range f = cond (all_below 9 f.next) (all_below 9 f.after) false

unfoldable pub state_in_range : State → Bool
state_in_range s = cond (factors_in_range (factors_of s)) (cond (in_range s.service) (running_in_range s.totals) false) false

abbrev pub lost_factors : Factors → Factors
lost_factors f = record { next = f.after; after = missing }

abbrev pub lost_state : State → State
lost_state s = joined_state (lost_factors (factors_of s)) searching_service (with_lost s.totals)

unfoldable pub lost_with : State → Result State Refusal
lost_with s = cond (state_in_range s) (cond (has_room s.totals) (Ok (lost_state s)) (Err Full)) (Err Range)

-- what the service answers, with the state's other parts as given
abbrev pub serviced_by : State → Served Service → Served State
serviced_by s r = record { position = r.position; kind = r.kind; labels = r.labels; next = joined_state (factors_of s) r.next s.totals }

abbrev pub serviced_from : State → Result (Served Service) Refusal → Result (Served State) Refusal
serviced_from s (Ok r) = Ok (serviced_by s r)
serviced_from s (Err why) = Err why

unfoldable pub serviced_with : State → List ℕ → List ℕ → Result (Served State) Refusal
serviced_with s six sync = cond (state_in_range s) (serviced_from s (served s.service six sync)) (Err Range)

abbrev pub next_served : State → Result (Served State) Refusal → State
next_served s (Ok r) = r.next
next_served s (Err why) = s

abbrev pub after_service : State → List ℕ → List ℕ → State
after_service s six sync = next_served s (serviced_with s six sync)

abbrev pub reset_state : State → State
reset_state s = joined_state (factors_of s) s.service no_running

unfoldable pub reset_with : State → Result State Refusal
reset_with s = cond (state_in_range s) (Ok (reset_state s)) (Err Range)

abbrev pub after_loss : State → State
after_loss s = result_unwrap_or (lost_with s) s

abbrev pub after_reset : State → State
after_reset s = result_unwrap_or (reset_with s) s
