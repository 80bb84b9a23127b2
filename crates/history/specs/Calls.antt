-- Superframes taken one after the other, each call given the state that the one before handed back.
--     Call s                a call of `take` on state s: the radius, what it was lent, and what its promise then says that it answers and leaves
--     Accepted, LostIn k    nothing was refused; a sync was wrong
--     Calls state           calls without end, the one with number n given the state `state n`
--     step_in k              the six service bytes and the sync of a call's superframe
--     LabelsNone k          a call that hands out no labels
--     HeardAt k factors     the samples and marks that a call leaves are those at these factors
--     Silent k              every sample is 0, and every mark 3
--     SentIn radius sf f p codes extra mask     the block in position p of frame number f was written with these codes, and then changed in the places of a
--                           mask: at most as many of the 63 protected ones as the radius, and none of bits 64 to 75
use Rattle.std.specs.Prelude.{ℕ, suc, ◌≤◌, ◌≡◌, true, List, ◌++◌, ℤ, pos, length, Result, None}
use Rattle.bits.specs.Table.{tabulate, every}
use Rattle.bits.specs.Bits.{are_bits, ones}
use Rattle.sample.specs.Sample.{is_code}
use Rattle.block.specs.Layout.{sound, rest}
use Rattle.block.specs.Demand.{received}
use Rattle.tape.specs.Tape.{block_in}
use Rattle.sound.specs.Sound.{samples_of, marks_of}
use Rattle.service.specs.Run.{Step}
use Rattle.beside.specs.Beside.{six_and_sync}
use Rattle.superframe.specs.Take.{Took, next_state, number_told, handed}
use Rattle.superframe.specs.declared.state.State.{State}
use Rattle.superframe.specs.declared.taking.Taken.{Taken}
use Rattle.superframe.specs.declared.taking.NotTaken.{NotTaken}

pub record Call (s : State) : Type 0 where
  pub radius : ℕ
  pub bytes : List ℕ
  pub lent-samples : List ℤ
  pub lent-marks : List ℕ
  pub answer : Result Taken NotTaken
  pub samples : List ℤ
  pub marks : List ℕ
  pub took : Took radius s bytes lent-samples lent-marks answer samples marks

abbrev pub Accepted : {s : State} → Call s → Type 0
Accepted k = number_told k.answer ≡ 0

pub record Calls (state : ℕ → State) : Type 0 where
  pub call : (n : ℕ) → Call (state n)
  pub next : (n : ℕ) → state (suc n) ≡ next_state (call n).answer

abbrev pub step_in : {s : State} → Call s → Step
step_in k = record { six = (six_and_sync k.bytes).six; sync = (six_and_sync k.bytes).sync }

pub record LabelsNone {s : State} (k : Call s) : Type 0 where
  pub labels : (handed k.answer).labels ≡ None

abbrev pub LostIn : {s : State} → Call s → Type 0
LostIn k = number_told k.answer ≡ 3

pub record HeardAt {s : State} (k : Call s) (factors : List ℕ) : Type 0 where
  pub sounds : k.samples ≡ samples_of k.radius k.bytes factors
  pub marks : k.marks ≡ marks_of k.radius k.bytes factors

pub record Silent {s : State} (k : Call s) : Type 0 where
  pub sounds : k.samples ≡ tabulate 2048 (λ n. pos 0)
  pub marks : k.marks ≡ tabulate 2048 (λ n. 3)

pub record SentIn (radius : ℕ) (sf : List ℕ) (f p : ℕ) (codes : List ℤ) (extra mask : List ℕ) : Type 0 where
  pub four : length codes ≡ 4
  pub good : every is_code codes ≡ true
  -- as they arrive
  pub two : length extra ≡ 2
  pub bits : are_bits extra ≡ true
  pub places : length mask ≡ 63
  pub few : ones mask ≤ radius
  pub arrived : block_in sf f p ≡ received (sound codes) mask (rest codes ++ extra)
