-- A superframe taken over lent bytes alone.
--     state_from b           the state that 88 bytes stand for: two sets of factors, and else a fresh one: the service searching, a history that begins
--     packed_at next after blocks k
--                           byte k of the 88, from the two sets of factors and the counts
--     packed_of r            the 88 bytes behind a superframe: both sets of factors, and for each of the eight positions the clean, mended and bad blocks
--     outside_taking radius b sf samples marks
--                           what is refused: another length than 88, with number 1, else as taking says
--     outside_number radius b sf samples marks      its number
--     beside_after radius o b sf     what the bytes then hold, by what is refused, o
--     TookOutside radius b sf samples marks r b' samples' marks'
--                           THE PROMISE: the number, and what the lent lists then hold; under 1 and 2 all are untouched, under 3 the bytes are those after a loss
use Rattle.std.specs.Prelude.{◌≡◌, cond, List, ℕ, ◌+◌, ◌-◌, eqb, ltb, ℤ, length, get_or, Result, Err}
use Rattle.bits.specs.Table.{tabulate}
use Rattle.bits.specs.Refused.{number_in}
use Rattle.bits.specs.declared.refusal.Refusal.{Refusal}
use Rattle.bits.specs.declared.refusal.Refusal.TheVariants.{Length}
use Rattle.sound.specs.Sound.{samples_of, marks_of}
use Rattle.tape.specs.declared.blocks.Blocks.{Blocks}
use Rattle.superframe.specs.State.{joined_state, fresh_state}
use Rattle.superframe.specs.Take.{taking, take_answer, handed}
use Rattle.superframe.specs.declared.state.State.{State}
use Rattle.superframe.specs.declared.taking.Taken.{Taken}
use Rattle.superframe.specs.declared.taking.NotTaken.{NotTaken}

abbrev pub channels_from : List ℕ → ℕ → List ℕ
channels_from b n = tabulate 32 (λ k. get_or b (n + k) 0)

unfoldable pub state_from : List ℕ → State
state_from b = joined_state (record { next = channels_from b 0; after = channels_from b 32 }) fresh_state.service fresh_state.totals

unfoldable pub packed_at : List ℕ → List ℕ → Blocks → ℕ → ℕ
packed_at next after blocks k =
    cond (ltb k 32) (get_or next k 0)
    (cond (ltb k 64) (get_or after (k - 32) 0)
    (cond (ltb k 72) (get_or blocks.clean (k - 64) 0)
    (cond (ltb k 80) (get_or blocks.mended (k - 72) 0)
    (get_or blocks.bad (k - 80) 0))))

abbrev pub packed_of : Result Taken NotTaken → List ℕ
packed_of r = tabulate 88 (packed_at (handed r).next.next (handed r).next.after (handed r).blocks)

unfoldable pub outside_taking : ℕ → List ℕ → List ℕ → List ℤ → List ℕ → Result Unit Refusal
outside_taking radius b sf samples marks = cond (eqb (length b) 88) (taking radius (state_from b) sf samples marks) (Err Length)

abbrev pub outside_number : ℕ → List ℕ → List ℕ → List ℤ → List ℕ → ℕ
outside_number radius b sf samples marks = number_in (outside_taking radius b sf samples marks)

unfoldable pub beside_after : ℕ → Result Unit Refusal → List ℕ → List ℕ → List ℕ
beside_after radius o b sf = cond (eqb (number_in o) 1) b (cond (eqb (number_in o) 2) b (packed_of (take_answer radius o (state_from b) sf)))

pub record TookOutside (radius : ℕ) (b sf : List ℕ) (samples : List ℤ) (marks : List ℕ) (r : ℕ) (b' : List ℕ) (samples' : List ℤ) (marks' : List ℕ) : Type 0 where
  pub number : r ≡ outside_number radius b sf samples marks
  pub beside : b' ≡ beside_after radius (outside_taking radius b sf samples marks) b sf
  pub sound : samples' ≡ cond (eqb (outside_number radius b sf samples marks) 0) (samples_of radius sf (state_from b).next) samples
  pub marked : marks' ≡ cond (eqb (outside_number radius b sf samples marks) 0) (marks_of radius sf (state_from b).next) marks
