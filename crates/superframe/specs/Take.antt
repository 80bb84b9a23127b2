-- Taking a superframe (document 01, "Superframe", "Numbers given"; document 02, P7 and P9).
--     takable radius s      the radius is 2 or 3, and the state in its range
--     taking radius s sf samples marks
--                           what it is refused for, if anything: a wrong length, then another radius or a state out of range, then a full history, then a wrong sync
--     take_number radius s sf samples marks      its number: 1, then 2, then 9, then 3, else 0
--     taken_factors s sf     the factors move on by one, and those read hold for the superframe after the next
--     served_in s sf         what the service makes of the six bytes and the sync, which are accepted from a state in range
--     beside_with s sf w b   the answer where nothing is refused, with w wrong bits in its syncs and the readings counted as b, which the totals grow by
--     state_under why s      the state that comes back with a refusal: with 3 that after one lost superframe, with 1, 2 and 9 the one given
--     refused_with why s     a refusal with that state
--     take_answer radius o s sf      the answer by what is refused, o
--     outcome, number_told r     what an answer says of refusals, and its number
--     handed r               all that an answer hands out; of a refused superframe the state, and zeros, with no labels
--     next_state r              the state that comes back
--     Took radius s sf samples marks r samples' marks'
--                           THE PROMISE: the answer, and what the two lent lists then hold; refused, they are untouched
use Rattle.std.specs.Prelude.{ℕ, ◌≡◌, Bool, false, cond, List, eqb, ℤ, length, Result, Ok, Err, None}
use Rattle.bits.specs.Table.{zeros}
use Rattle.bits.specs.Refused.{number_of, number_in}
use Rattle.bits.specs.declared.refusal.Refusal.{Refusal}
use Rattle.bits.specs.declared.refusal.Refusal.TheVariants.{Length, Range, Sync, Full}
use Rattle.reading.specs.Reading.{is_radius}
use Rattle.service_sync.specs.Sync.{kind_of}
use Rattle.service_sync.specs.declared.Kind.TheVariants.{First}
use Rattle.service.specs.Service.{step_by}
use Rattle.service.specs.declared.Service.{Service}
use Rattle.service.specs.declared.Served.{Served}
use Rattle.tape.specs.Tape.{synced, wrong_bits, blocks_of, no_blocks}
use Rattle.running.specs.Running.{has_room, with_taken}
use Rattle.sound.specs.Sound.{samples_of, marks_of, lengths_fit}
use Rattle.beside.specs.Beside.{programmes_of, six_and_sync}
use Rattle.tape.specs.declared.blocks.Blocks.{Blocks}
use Rattle.beside.specs.declared.Programmes.{Programmes}
use Rattle.superframe.specs.State.{Factors, joined_state, state_in_range, lost_state}
use Rattle.superframe.specs.declared.state.State.{State}
use Rattle.superframe.specs.declared.taking.Taken.{Taken}
use Rattle.superframe.specs.declared.taking.NotTaken.{NotTaken}

unfoldable pub takable : ℕ → State → Bool
takable radius s = cond (is_radius radius) (state_in_range s) false

unfoldable pub taking : ℕ → State → List ℕ → List ℤ → List ℕ → Result Unit Refusal
taking radius s sf samples marks =
    cond (lengths_fit (length sf) (length samples) (length marks)) (cond (takable radius s) (cond (has_room s.totals) (cond (synced sf) (Ok tt) (Err Sync)) (Err Full)) (Err Range)) (Err Length)

abbrev pub take_number : ℕ → State → List ℕ → List ℤ → List ℕ → ℕ
take_number radius s sf samples marks = number_in (taking radius s sf samples marks)

abbrev pub taken_factors : State → List ℕ → Factors
taken_factors s sf = record { next = s.after; after = (programmes_of sf).factors }

abbrev pub served_in : State → List ℕ → Served Service
served_in s sf = step_by s.service (six_and_sync sf).six (kind_of (six_and_sync sf).sync)

unfoldable pub beside_with : State → List ℕ → ℕ → Blocks → Taken
beside_with s sf w b =
    record {
      next = joined_state (taken_factors s sf) (served_in s sf).next (with_taken s.totals b);
      wrong = w;
      blocks = b;
      programmes = programmes_of sf;
      six = (six_and_sync sf).six;
      position = (served_in s sf).position;
      kind = (served_in s sf).kind;
      labels = (served_in s sf).labels;
    }

abbrev pub state_under : Refusal → State → State
state_under why s = cond (eqb (number_of why) 3) (lost_state s) s

abbrev pub refused_with : Refusal → State → NotTaken
refused_with why s = record { why = why; next = state_under why s }

abbrev pub take_answer : ℕ → Result Unit Refusal → State → List ℕ → Result Taken NotTaken
take_answer radius (Ok _) s sf = Ok (beside_with s sf (wrong_bits sf) (blocks_of radius sf))
take_answer radius (Err why) s sf = Err (refused_with why s)

abbrev pub outcome : Result Taken NotTaken → Result Unit Refusal
outcome (Ok t) = Ok tt
outcome (Err e) = Err e.why

abbrev pub number_told : Result Taken NotTaken → ℕ
number_told r = number_in (outcome r)

unfoldable pub no_programmes : Programmes
no_programmes = record { numbers = zeros 16; factors = zeros 32; places = zeros 16; words = zeros 16 }

abbrev pub handed : Result Taken NotTaken → Taken
handed (Ok t) = t
handed (Err e) =
    record {
      next = e.next;
      wrong = 0;
      blocks = no_blocks;
      programmes = no_programmes;
      six = zeros 6;
      position = 0;
      kind = First;
      labels = None;
    }

abbrev pub next_state : Result Taken NotTaken → State
next_state r = (handed r).next

pub record Took (radius : ℕ) (s : State) (sf : List ℕ) (samples : List ℤ) (marks : List ℕ) (r : Result Taken NotTaken) (samples' : List ℤ) (marks' : List ℕ) : Type 0 where
  pub answer : r ≡ take_answer radius (taking radius s sf samples marks) s sf
  -- at the factors that the state brought, never at those of this superframe
  pub sound : samples' ≡ cond (eqb (take_number radius s sf samples marks) 0) (samples_of radius sf s.next) samples
  pub marked : marks' ≡ cond (eqb (take_number radius s sf samples marks) 0) (marks_of radius sf s.next) marks
