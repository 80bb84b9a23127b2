-- Running totals per programme (document 02, P7). Programmes count from 0 here, and from 1 in the document.
--     adds_up clean mended bad taken     three numbers of blocks are all that a programme has in so many superframes: 64 in each
--     programme_fits t q     they are, for programme q
--     sums_fit t             and for each of the sixteen
--     given_in taken lost    the superframes given: "taken .. are those given and not lost"
--     most_given             "Totals stop at 1,000,000 superframes given"
--     running_in_range t      the sums fit, and no more were given than a history holds
--     has_room t             the history is not full
--     no_running             where a history begins
--     Bounded totals        no programme has more blocks than a full history
--     added_to totals counts     the blocks of each programme with those of a superframe more: position b of the eight carries programmes 2b-1 and 2b
--     with_taken t b, with_lost t     the totals after a superframe taken, with its blocks counted as b, and after a lost one: it "adds to the lost number only"
--     step_number t          what one superframe more is refused with: 2 for totals out of range, then 9 for a full history, else 0
--     allowed t              the same as an answer
--     after a next           what comes next, where nothing is refused
--     stepped_to t next      what is answered: the next totals, or that refusal; the totals as given stay with whoever gave them
--     taken_step t b, lost_step t     so for a superframe taken, and for a lost one
use Rattle.std.specs.Prelude.{ℕ, ◌+◌, ◌*◌, ◌/◌, ◌<◌, ◌≤◌, Bool, false, cond, List, eqb, leb, ltb, get_or}
use Rattle.std.specs.declared.result.Result.{Result}
use Rattle.std.specs.declared.result.Result.TheVariants.{Ok, Err}
use Rattle.bits.specs.declared.refusal.Refusal.{Refusal}
use Rattle.bits.specs.declared.refusal.Refusal.TheVariants.{Range, Full}
use Rattle.bits.specs.Table.{tabulate, every, zeros}
use Rattle.tape.specs.declared.blocks.Blocks.{Blocks}
use Rattle.running.specs.declared.Running.{Running}

unfoldable pub adds_up : ℕ → ℕ → ℕ → ℕ → Bool
adds_up clean mended bad taken = eqb (clean + mended + bad) (64 * taken)

abbrev pub programme_fits : Running → ℕ → Bool
programme_fits t q = adds_up (get_or t.clean q 0) (get_or t.mended q 0) (get_or t.bad q 0) t.taken

unfoldable pub sums_fit : Running → Bool
sums_fit t = every (programme_fits t) (tabulate 16 (λ q. q))

abbrev pub given_in : ℕ → ℕ → ℕ
given_in taken lost = taken + lost

abbrev pub most_given : ℕ
most_given = 1_000_000

unfoldable pub running_in_range : Running → Bool
running_in_range t = cond (sums_fit t) (leb (given_in t.taken t.lost) most_given) false

unfoldable pub has_room : Running → Bool
has_room t = ltb (given_in t.taken t.lost) most_given

unfoldable pub no_running : Running
no_running = record { taken = 0; lost = 0; clean = zeros 16; mended = zeros 16; bad = zeros 16 }

pub record Bounded (totals : List ℕ) : Type 0 where
  pub each : (q : ℕ) → q < 16 → get_or totals q 0 ≤ 64 * most_given

unfoldable pub added_to : List ℕ → List ℕ → List ℕ
added_to totals counts = tabulate 16 (λ q. get_or totals q 0 + get_or counts (q / 2) 0)

unfoldable pub with_taken : Running → Blocks → Running
with_taken t b =
    record {
      taken = t.taken + 1;
      lost = t.lost;
      clean = added_to t.clean b.clean;
      mended = added_to t.mended b.mended;
      bad = added_to t.bad b.bad;
    }

unfoldable pub with_lost : Running → Running
with_lost t = record { taken = t.taken; lost = t.lost + 1; clean = t.clean; mended = t.mended; bad = t.bad }

unfoldable pub step_number : Running → ℕ
step_number t = cond (running_in_range t) (cond (has_room t) 0 9) 2

unfoldable pub allowed : Running → Result (Unit {0}) Refusal
allowed t = cond (running_in_range t) (cond (has_room t) (Ok tt) (Err Full)) (Err Range)

abbrev pub after : Result (Unit {0}) Refusal → Running → Result Running Refusal
after (Ok _) next = Ok next
after (Err e) next = Err e

unfoldable pub stepped_to : Running → Running → Result Running Refusal
stepped_to t next = after (allowed t) next

unfoldable pub taken_step : Running → Blocks → Result Running Refusal
taken_step t b = stepped_to t (with_taken t b)

unfoldable pub lost_step : Running → Result Running Refusal
lost_step t = stepped_to t (with_lost t)
