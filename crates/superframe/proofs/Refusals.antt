-- What the reader's methods refuse, in the words and order of document 01 ("Numbers given") and document 02 (P7, P9).
--     tells-lengths, tells-state, tells-takable
--                               the code's tests tell whether a length is wrong, whether a number of the state is out of its range, and whether that or the radius is
--     number_is, told, numbered     what is refused, and its number, of the tests and of an answer
--     state-is                  and the state that comes with a refusal
--     ranged, chosen, roomy     what the state and the radius are where 0 or 3 is answered
--     take-refuses, lose-refuses, service-refuses, reset-refuses        THE REFUSALS of the four methods
--     resets                    what a reset does where it is not refused
-- Assumes nothing.
use mathlib.Core.Path.{◌≡◌, refl, sym, ap, subst, ◌∙◌}
use mathlib.Core.Bool.{Bool, true, false, true≢false, cond}
use mathlib.Core.Logic.{◌⊎◌, inl, inr, ⊎_elim, ◌≢◌}
use mathlib.Core.List.{List, [], ◌∷◌}
use Prim.Native.Nat.{ℕ, zero, suc, ◌<◌}
use native.Mathlib.Omega.{arith}
use borrow.Author.Tests.{eqb-false, ne_eqb, ltb-true, ltb-false, leb-true, leb-false}
use lib.Dec.{eqb, ltb, leb}
use lib.IntN.{ℤ}
use lib.ListN.{length, get_or}
use Rattle.bits.specs.Table.{every}
use Rattle.bits.specs.Bits.{all_below}
use Rattle.bits.specs.Order.{Refused, Accepted}
use Rattle.std.specs.declared.result.Result.{Result}
use Rattle.std.specs.declared.result.Result.TheVariants.{Ok, Err}
use Rattle.bits.specs.Refused.{number_of, number_in}
use Rattle.bits.specs.declared.refusal.Refusal.{Refusal}
use Rattle.bits.specs.declared.refusal.Refusal.TheVariants as refusal
use Rattle.bits.proofs.Tests.{either_way, both_true, both_left, both_right}
use Rattle.bits.proofs.Every.{every-missed}
use Rattle.bits.proofs.Order.{Tells, tested, no-fault, past}
use Rattle.reading.specs.Reading.{is_radius, OtherRadius}
use Rattle.reading.proofs.Radius.{tells-radius}
use Rattle.tape.specs.Tape.{synced}
use Rattle.tape.specs.Faults.{WrongSync}
use Rattle.tape.proofs.Faults.{tells-sync}
use Rattle.running.specs.Running.{has_room, no_running}
use Rattle.running.specs.Document.{Full}
use Rattle.running.proofs.Refusals.{tells-broken, tells-full}
use Rattle.sound.specs.Sound.{lengths_fit}
use Rattle.sound.proofs.Samples.{fits}
use Rattle.service.specs.Service.{in_range, accepts, served}
use Rattle.superframe.specs.State.{state_in_range, lost_with, serviced_from, serviced_with, reset_with, after_reset}
use Rattle.superframe.specs.Take.{takable, taking, take_number, state_under, take_answer, outcome, number_told, next_state, Took}
use Rattle.superframe.specs.Document.{WrongLength, bytes, places, marked, OutOfRange, next, after, position, stage, totals, NoBits, no-bit, TakeRefuses, LoseRefuses, ServiceRefuses, ResetRefuses, Resets}
use Rattle.superframe.specs.declared.state.State.{State}
use Rattle.superframe.specs.declared.taking.Taken.{Taken}
use Rattle.superframe.specs.declared.taking.NotTaken.{NotTaken}
use Rattle.superframe.proofs.Parts.{factors-in-range, service-in-range, running-in-range}
use Rattle.superframe.proofs.Took.{lost-next, refused-by}

-- ---- lengths
module _ (sf : List ℕ) (samples : List ℤ) (marks : List ℕ) where
  abbrev fit : Bool
  fit = lengths_fit (length sf) (length samples) (length marks)

  wrong : fit ≡ false → WrongLength sf samples marks
  unfolding lengths_fit
  wrong e =
      either_way (eqb (length sf) 5120)
      (λ t. either_way (eqb (length samples) 2048)
      (λ u. marked (eqb-false (length marks) 2048 (rw (t, u) at e)))
      (λ u. places (eqb-false (length samples) 2048 u)))
      (λ t. bytes (eqb-false (length sf) 5120 t))

  right : fit ≡ true → WrongLength sf samples marks → ⊥
  right e (bytes h) = h (fits _ _ _ e).0
  right e (places h) = h (fits _ _ _ e).1
  right e (marked h) = h (fits _ _ _ e).2

  pub tells-lengths : Tells (WrongLength sf samples marks) fit
  tells-lengths = record { there = wrong; away = right }

-- ---- a state's numbers
record Above (b : ℕ) (l : List ℕ) : Type 0 where
  place : ℕ
  above : b < get_or l place 0

some-above : (b : ℕ) (l : List ℕ) → all_below (suc b) l ≡ false → Above b l
unfolding all_below
some-above b l e =
    let m = every-missed (λ x. ltb x (suc b)) l 0 e in
    record { place = m.place; above = ltb-false (get_or l m.place 0) (suc b) m.fails }

none_above : (b : ℕ) (l : List ℕ) (c : ℕ) → all_below (suc b) l ≡ true → b < get_or l c 0 → ⊥
unfolding all_below every
none_above b [] c e h = omega arith
none_above b (x ∷ l) zero e h = omega (arith, ltb-true x (suc b) (both_true (ltb x (suc b)) (every (λ x. ltb x (suc b)) l) e).0)
none_above b (x ∷ l) (suc c) e h = none_above b l c (both_true (ltb x (suc b)) (every (λ x. ltb x (suc b)) l) e).1 h

module _ (s : State) where
  service-out : in_range s.service ≡ false → OutOfRange s
  unfolding in_range
  service-out e =
      either_way (leb s.service.position 8)
      (λ t. stage (leb-false s.service.stage 8 (rw t at e)))
      (λ t. position (leb-false s.service.position 8 t))

  out : state_in_range s ≡ false → OutOfRange s
  unfolding state_in_range
  out e =
      either_way (all_below 9 s.next)
      (λ t. either_way (all_below 9 s.after)
      (λ u. either_way (in_range s.service)
      (λ v. totals ((tells-broken s.totals).there (rw (t, u, v) at e)))
      (λ v. service-out v))
      (λ u. let m = some-above 8 s.after u in after m.place m.above))
      (λ t. let m = some-above 8 s.next t in next m.place m.above)

  module _ (e : state_in_range s ≡ true) where
    within : OutOfRange s → ⊥
    unfolding in_range
    within (next c h) = none_above 8 s.next c (both_left (all_below 9 s.next) _ (factors-in-range s e)) h
    within (after c h) = none_above 8 s.after c (both_right (all_below 9 s.next) _ (factors-in-range s e)) h
    within (position h) = omega (arith, leb-true s.service.position 8 (both_left (leb s.service.position 8) _ (service-in-range s e)))
    within (stage h) = omega (arith, leb-true s.service.stage 8 (both_right (leb s.service.position 8) _ (service-in-range s e)))
    within (totals h) = (tells-broken s.totals).away (running-in-range s e) h

  pub tells-state : Tells (OutOfRange s) (state_in_range s)
  tells-state = record { there = out; away = within }

pub tells-takable : (radius : ℕ) (s : State) → Tells (OutOfRange s ⊎ OtherRadius radius) (takable radius s)
unfolding takable
tells-takable radius s =
    either_way (is_radius radius)
    (λ t.
    rw t
    (record {
      there = λ e. inl ((tells-state s).there e);
      away = λ e. ⊎_elim ((tells-state s).away e) ((tells-radius radius).away t);
    }))
    (λ t. rw t (record { there = λ e. inr ((tells-radius radius).there t); away = λ e. absurd (true≢false (sym e)) }))

-- ---- taking a superframe
-- what is refused is what the answer says
outcome_is : (radius : ℕ) (o : Result Unit Refusal) (s : State) (sf : List ℕ) → outcome (take_answer radius o s sf) ≡ o
outcome_is radius (Ok _) s sf = refl
outcome_is radius (Err why) s sf = refl

module _ (radius : ℕ) (s : State) (sf : List ℕ) (samples : List ℤ) (marks : List ℕ) where
  abbrev number : ℕ
  number = take_number radius s sf samples marks

  number_is : number ≡ cond (fit sf samples marks) (cond (takable radius s) (cond (has_room s.totals) (cond (synced sf) 0 3) 9) 2) 1
  unfolding taking
  number_is =
      either_way (fit sf samples marks)
      (λ t. either_way (takable radius s)
      (λ u. either_way (has_room s.totals)
      (λ v. either_way (synced sf) (λ w. rw (t, u, v, w)) (λ w. rw (t, u, v, w)))
      (λ v. rw (t, u, v)))
      (λ u. rw (t, u)))
      (λ t. rw t)

  abbrev InOrder : ℕ → Type 0
  InOrder = Refused (WrongLength sf samples marks) 1 (Refused (OutOfRange s ⊎ OtherRadius radius) 2 (Refused (Full s.totals) 9 (Refused (WrongSync sf) 3 Accepted)))

  in_order : InOrder number
  in_order =
      rw number_is
      (tested _ _ (tells-lengths sf samples marks) (tested _ _ (tells-takable radius s) (tested _ _ (tells-full s.totals) (tested _ _ (tells-sync sf) refl))))

  module _ (r : Result Taken NotTaken) (samples' : List ℤ) (marks' : List ℕ) (t : Took radius s sf samples marks r samples' marks') where
    pub told : outcome r ≡ taking radius s sf samples marks
    told = ap outcome t.answer ∙ outcome_is radius (taking radius s sf samples marks) s sf

    pub numbered : number ≡ number_told r
    numbered = sym (ap number_in told)

    pub state-is : (why : Refusal) → number_told r ≡ number_of why → next_state r ≡ state_under why s
    state-is why e =
        let o = refused-by (outcome r) why e in
        ap next_state (t.answer ∙ ap (λ (o : Result Unit Refusal). take_answer radius o s sf) (sym told ∙ o))

    ordered : InOrder (number_told r)
    ordered = subst InOrder numbered in_order

    -- 0 and 3 are given to a state in range alone, at a radius that may be chosen, with room in its history
    module _ (one : number_told r ≢ 1) (two : number_told r ≢ 2) where
      pub ranged : state_in_range s ≡ true
      ranged = either_way (state_in_range s) (λ u. u) (λ u. absurd (no-fault (past ordered one) two (inl ((tells-state s).there u))))

      pub chosen : is_radius radius ≡ true
      chosen = either_way (is_radius radius) (λ u. u) (λ u. absurd (no-fault (past ordered one) two (inr ((tells-radius radius).there u))))

      pub roomy : number_told r ≢ 9 → has_room s.totals ≡ true
      roomy nine =
          either_way (has_room s.totals) (λ u. u) (λ u. absurd (no-fault (past (past ordered one) two) nine ((tells-full s.totals).there u)))

    pub take-refuses : TakeRefuses radius s sf samples marks r samples' marks'
    take-refuses =
        record {
          order = ordered;
          given = ⊎_elim (λ e. state-is refusal.Length e) (⊎_elim (λ e. state-is refusal.Range e) (λ e. state-is refusal.Full e));
          lost = λ e.
              let one : number_told r ≢ 1 = λ z. omega (arith, e, z) in
              let two : number_told r ≢ 2 = λ z. omega (arith, e, z) in
              state-is refusal.Sync e ∙ sym (lost-next s (ranged one two) (roomy one two (λ z. omega (arith, e, z))));
          untouched = λ h.
              let z : eqb number 0 ≡ false = ne_eqb number 0 (λ e. h (sym numbered ∙ e)) in
              (t.sound ∙ rw z, t.marked ∙ rw z);
        }

-- ---- losing one, six service bytes, and a reset
-- an answer that goes by tests, and its parts
lost-number : (s : State) → number_in (lost_with s) ≡ cond (state_in_range s) (cond (has_room s.totals) 0 9) 2
unfolding lost_with
lost-number s = either_way (state_in_range s) (λ t. either_way (has_room s.totals) (λ u. rw (t, u)) (λ u. rw (t, u))) (λ t. rw t)

pub lose-refuses : (s : State) → LoseRefuses s (lost_with s)
unfolding lost_with
lose-refuses s =
    record {
      order = rw (lost-number s) (tested _ _ (tells-state s) (tested _ _ (tells-full s.totals) refl));
      given =
          either_way (state_in_range s)
          (λ t. either_way (has_room s.totals) (λ u. rw (t, u) (λ h. absurd (h refl))) (λ u. rw (t, u) (λ _. refl)))
          (λ t. rw t (λ _. refl));
    }

reset-number : (s : State) → number_in (reset_with s) ≡ cond (state_in_range s) 0 2
unfolding reset_with
reset-number s = either_way (state_in_range s) (λ t. rw t) (λ t. rw t)

pub reset-refuses : (s : State) → ResetRefuses s (reset_with s)
unfolding reset_with
reset-refuses s =
    record {
      order = rw (reset-number s) (tested _ _ (tells-state s) refl);
      given = either_way (state_in_range s) (λ t. rw t (λ h. absurd (h refl))) (λ t. rw t (λ _. refl));
    }

pub resets : (s : State) → number_in (reset_with s) ≡ 0 → Resets s (after_reset s)
unfolding reset_with no_running
resets s =
    either_way (state_in_range s)
    (λ t. rw t (λ _. record { taken = refl; lost = refl; clean = refl; mended = refl; bad = refl; factors = refl; service = refl }))
    (λ t. rw t (λ e. absurd (omega (arith, e))))

-- the machine's answer to a state in range
machine : (s : State) (six sync : List ℕ) → state_in_range s ≡ true → ServiceRefuses s sync (serviced_from s (served s.service six sync))
unfolding served accepts
machine s six sync h =
    either_way (all_below 2 sync)
    (λ t.
    rw (service-in-range s h, t)
    (record { two = ⊎_elim (λ o. absurd (within s h o)) (λ n. absurd (bits-all t n)); only = λ e. absurd (omega (arith, e)); given = λ e. absurd (omega (arith, e)) }))
    (λ t.
    rw (service-in-range s h, t)
    (record { two = λ f. refl; only = λ e. inr (let m = some-above 1 sync t in no-bit m.place m.above); given = λ e. refl }))
  where
    bits-all : all_below 2 sync ≡ true → NoBits sync → ⊥
    bits-all t (no-bit j l) = none_above 1 sync j t l

pub service-refuses : (s : State) (six sync : List ℕ) → ServiceRefuses s sync (serviced_with s six sync)
unfolding serviced_with
service-refuses s six sync =
    either_way (state_in_range s)
    (λ t. rw t (machine s six sync t))
    (λ t. rw t (record { two = λ f. refl; only = λ e. inl (out s t); given = λ e. refl }))
