-- Sentences of document 01, "Numbers given", on the reader's methods, in its words: theorems hold the definitions to them.
--     WrongLength sf samples marks      "a lent length is wrong"
--     OutOfRange s                      "a given number (in a state ..) is out of its range": factors 0 to 7 and 8 for missing, position and stage 0 to 8; and
--                                       totals that break their sums (document 02, P7)
--     NoBits sync                       the same of a sync's entries, which are 0 or 1
--     TakeRefuses ..                    taking a superframe: the numbers in their order, with "2 for a radius other than two or three, after 1" (document 02, P9) and
--                                       "9, a full history, comes after 2 and before 3; the state and the buffers stay as they were" (P7); "state as before" under 1,
--                                       "state as given" under 2, "the state after one lost superframe" under 3; "a refusal writes into no lent buffer"
--     LoseRefuses s r, ServiceRefuses s sync r, ResetRefuses s r      the same of losing one, of six service bytes, and of a reset
--     Resets s t                        "a call that resets starts a new history at that point": nothing is counted, and all else is as given
--     ServedAs r t, Serves s sf t       taking a superframe does with its six bytes and its sync what `take_service` does with them
use Rattle.std.specs.Prelude.{ℕ, ◌<◌, ◌≡◌, ◌⊎◌, ◌≢◌, List, ℤ, length, get_or, Result}
use Rattle.std.specs.Result.{result_unwrap_or, IsOkAnd}
use Rattle.bits.specs.Order.{Refused, Accepted}
use Rattle.bits.specs.Refused.{number_in}
use Rattle.bits.specs.declared.refusal.Refusal.{Refusal}
use Rattle.bits.specs.Table.{zeros}
use Rattle.reading.specs.Reading.{OtherRadius}
use Rattle.tape.specs.Faults.{WrongSync}
use Rattle.running.specs.Document.{Broken, Full}
use Rattle.beside.specs.Beside.{six_and_sync}
use Rattle.service.specs.declared.Served.{Served}
use Rattle.superframe.specs.State.{factors_of, serviced_with, next_served, after_loss}
use Rattle.superframe.specs.Take.{number_told, next_state}
use Rattle.superframe.specs.declared.state.State.{State}
use Rattle.superframe.specs.declared.taking.Taken.{Taken}
use Rattle.superframe.specs.declared.taking.NotTaken.{NotTaken}

pub data WrongLength (sf : List ℕ) (samples : List ℤ) (marks : List ℕ) : Type 0 where
  bytes : length sf ≢ 5120 → WrongLength sf samples marks
  places : length samples ≢ 2048 → WrongLength sf samples marks
  marked : length marks ≢ 2048 → WrongLength sf samples marks

pub data OutOfRange (s : State) : Type 0 where
  next : (c : ℕ) → 8 < get_or s.next c 0 → OutOfRange s
  after : (c : ℕ) → 8 < get_or s.after c 0 → OutOfRange s
  position : 8 < s.service.position → OutOfRange s
  stage : 8 < s.service.stage → OutOfRange s
  totals : Broken s.totals → OutOfRange s

pub data NoBits (sync : List ℕ) : Type 0 where
  no-bit : (j : ℕ) → 1 < get_or sync j 0 → NoBits sync

pub record TakeRefuses (radius : ℕ) (s : State) (sf : List ℕ) (samples : List ℤ) (marks : List ℕ) (r : Result Taken NotTaken) (samples' : List ℤ) (marks' : List ℕ) : Type 0 where
  pub order : Refused (WrongLength sf samples marks) 1 (Refused (OutOfRange s ⊎ OtherRadius radius) 2 (Refused (Full s.totals) 9 (Refused (WrongSync sf) 3 Accepted))) (number_told r)
  pub given : (number_told r ≡ 1) ⊎ ((number_told r ≡ 2) ⊎ (number_told r ≡ 9)) → next_state r ≡ s
  pub lost : number_told r ≡ 3 → next_state r ≡ after_loss s
  pub untouched : number_told r ≢ 0 → (samples' ≡ samples) × (marks' ≡ marks)

pub record LoseRefuses (s : State) (r : Result State Refusal) : Type 0 where
  pub order : Refused (OutOfRange s) 2 (Refused (Full s.totals) 9 Accepted) (number_in r)
  pub given : number_in r ≢ 0 → result_unwrap_or r s ≡ s

pub record ServiceRefuses (s : State) (sync : List ℕ) (r : Result (Served State) Refusal) : Type 0 where
  pub two : OutOfRange s ⊎ NoBits sync → number_in r ≡ 2
  pub only : number_in r ≡ 2 → OutOfRange s ⊎ NoBits sync
  pub given : number_in r ≡ 2 → next_served s r ≡ s

pub record ResetRefuses (s : State) (r : Result State Refusal) : Type 0 where
  pub order : Refused (OutOfRange s) 2 Accepted (number_in r)
  pub given : number_in r ≢ 0 → result_unwrap_or r s ≡ s

-- t is the state behind the reset
pub record Resets (s t : State) : Type 0 where
  pub taken : t.totals.taken ≡ 0
  pub lost : t.totals.lost ≡ 0
  pub clean : t.totals.clean ≡ zeros 16
  pub mended : t.totals.mended ≡ zeros 16
  pub bad : t.totals.bad ≡ zeros 16
  pub factors : factors_of t ≡ factors_of s
  pub service : t.service ≡ s.service

pub record ServedAs (r : Served State) (t : Taken) : Type 0 where
  pub position : t.position ≡ r.position
  pub kind : t.kind ≡ r.kind
  pub labels : t.labels ≡ r.labels
  pub next : t.next.service ≡ r.next.service

-- t is what is handed out with a superframe that is taken
pub record Serves (s : State) (sf : List ℕ) (t : Taken) : Type 0 where
  pub six : t.six ≡ (six_and_sync sf).six
  pub served : IsOkAnd (serviced_with s (six_and_sync sf).six (six_and_sync sf).sync) (λ r. ServedAs r t)
