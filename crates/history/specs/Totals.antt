-- Any run of calls from a fresh state, and what was given in it, counted over the calls and not over the state (document 02, P7). Programmes count from 1.
--     Asked             a call as its caller knows it: what was asked, and the number that it answered
--     number_served r    the number that six service bytes are answered with
--     Made s e s'       call e was made on state s, kept its promise, and handed back state s'
--     Run s es          "any run of calls from a fresh state, each given the state that the one before handed back": the calls es, the last one first, and the
--                       state s behind them. Refused calls are among them
--     is_reset e         a reset that was not refused
--     since es          the calls since the last reset: "a call that resets starts a new history at that point"
--     added_by x y e     what call e adds where a superframe that is taken adds x, by its radius and its bytes, and a lost one y, lost with its bytes or without: "a
--                       call with refusal 1, 2 or 9 adds nothing"
--     taken_by, lost_by, given_by      of a call 1 where a superframe was taken; lost; given, which is one or the other
--     blocks_by q k      of a superframe that was taken, the blocks that carry programme q and are of kind k at its radius: 0 clean, 1 mended, 2 bad
--     Counted s es      "each number equals the count over the superframes given so far"
use Rattle.std.specs.Prelude.{ℕ, ◌≤◌, ◌≡◌, Bool, false, cond, List, [], ◌∷◌, eqb}
use Rattle.std.specs.Result.{result_unwrap_or}
use Rattle.std.specs.declared.result.Result.{Result}
use Rattle.std.specs.declared.result.Result.TheVariants.{Ok, Err}
use Rattle.bits.specs.Refused as refusals
use Rattle.service_sync.specs.Sync.{number_of}
use Rattle.bits.specs.declared.refusal.Refusal.{Refusal}
use Rattle.bits.specs.Refused.{number_in}
use Rattle.bits.specs.Table.{total}
use Rattle.service.specs.declared.Served.{Served}
use Rattle.tape.specs.Document.{entry, programme_blocks}
use Rattle.superframe.specs.State.{fresh_state, lost_with, serviced_with, next_served, reset_with}
use Rattle.superframe.specs.declared.state.State.{State}
use Rattle.history.specs.Calls.{Call}
use Rattle.superframe.specs.Take.{next_state, number_told}

-- 7 where the sync is neither of the two, which refuses nothing
abbrev pub number_served : Result (Served State) Refusal → ℕ
number_served (Ok r) = number_of r.kind
number_served (Err why) = refusals.number_of why

pub data Asked : Type 0 where
  take : (radius : ℕ) (superframe : List ℕ) (number : ℕ) → Asked
  lose : (number : ℕ) → Asked
  serve : (number : ℕ) → Asked
  reset : (number : ℕ) → Asked

pub data Made (s : State) : Asked → State → Type 0 where
  taking : (k : Call s) → Made s (take k.radius k.bytes (number_told k.answer)) (next_state k.answer)
  losing : (r : Result State Refusal) → r ≡ lost_with s → Made s (lose (number_in r)) (result_unwrap_or r s)
  serving : (six sync : List ℕ) (r : Result (Served State) Refusal) → r ≡ serviced_with s six sync → Made s (serve (number_served r)) (next_served s r)
  resetting : (r : Result State Refusal) → r ≡ reset_with s → Made s (reset (number_in r)) (result_unwrap_or r s)

pub data Run : State → List Asked → Type 0 where
  begun : Run fresh_state []
  then : (s s' : State) (es : List Asked) (e : Asked) → Run s es → Made s e s' → Run s' (e ∷ es)

unfoldable pub is_reset : Asked → Bool
is_reset (take radius sf n) = false
is_reset (lose n) = false
is_reset (serve n) = false
is_reset (reset n) = eqb n 0

unfoldable pub since : List Asked → List Asked
since [] = []
since (e ∷ es) = cond (is_reset e) [] (e ∷ since es)

unfoldable pub added_by : (ℕ → List ℕ → ℕ) → ℕ → Asked → ℕ
added_by x y (take radius sf n) = cond (eqb n 0) (x radius sf) (cond (eqb n 3) y 0)
added_by x y (lose n) = cond (eqb n 0) y 0
added_by x y (serve n) = 0
added_by x y (reset n) = 0

abbrev pub taken_by : Asked → ℕ
taken_by = added_by (λ radius sf. 1) 0

abbrev pub lost_by : Asked → ℕ
lost_by = added_by (λ radius sf. 0) 1

abbrev pub given_by : Asked → ℕ
given_by = added_by (λ radius sf. 1) 1

abbrev pub blocks_by : ℕ → ℕ → Asked → ℕ
blocks_by q k = added_by (λ radius sf. programme_blocks radius k q sf) 0

pub record Counted (s : State) (es : List Asked) : Type 0 where
  pub taken : s.totals.taken ≡ total taken_by (since es)
  pub lost : s.totals.lost ≡ total lost_by (since es)
  pub clean : (q : ℕ) → 1 ≤ q → q ≤ 16 → entry s.totals.clean q 0 ≡ total (blocks_by q 0) (since es)
  pub mended : (q : ℕ) → 1 ≤ q → q ≤ 16 → entry s.totals.mended q 0 ≡ total (blocks_by q 1) (since es)
  pub bad : (q : ℕ) → 1 ≤ q → q ≤ 16 → entry s.totals.bad q 0 ≡ total (blocks_by q 2) (since es)
