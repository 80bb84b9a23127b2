-- The running totals over any run of calls (document 02, P7).
--     run-counted       THE THEOREM: behind any run of calls from a fresh state each number is the count over the superframes given since the last reset
--     run-in-range      the states that such runs reach are in range
--     run-sums          "clean, mended and bad of a programme add up to 64 times the superframes taken, which are those given and not lost"
--     run-full          the history is full, which number 9 says, exactly where 1,000,000 superframes were given since the last reset; there are never more
-- Assumes nothing.
use mathlib.Core.Path.{◌≡◌, refl, sym, ap, subst, ◌∙◌}
use mathlib.Core.Bool.{true, false, true≢false, cond}
use mathlib.Core.List.{List}
use Prim.Native.Nat.{ℕ, ◌+◌, ◌-◌, ◌*◌, ◌≤◌}
use native.Mathlib.Omega.{arith}
use borrow.Author.Tests.{ne_eqb}
use lib.Dec.{eqb}
use lib.ListN.{get_or-replicate}
use Rattle.std.specs.Result.{result_unwrap_or}
use Rattle.std.specs.declared.result.Result.{Result}
use Rattle.std.specs.declared.result.Result.TheVariants.{Ok, Err}
use Rattle.bits.specs.declared.refusal.Refusal.{Refusal}
use Rattle.bits.specs.Refused.{number_of, number_in}
use Rattle.bits.proofs.Refused.{not_zero}
use Rattle.bits.specs.Table.{zeros, total}
use Rattle.bits.proofs.Tests.{either_way}
use Rattle.tape.specs.Tape.{kind_in, tallied_by, blocks_of}
use Rattle.tape.specs.Document.{entry, programme_blocks}
use Rattle.tape.proofs.Positions.{programme-counted}
use Rattle.running.specs.Running.{has_room, no_running, added_to, with_taken, with_lost}
use Rattle.running.specs.Document.{Full}
use Rattle.running.specs.declared.Running.{Running}
use Rattle.running.proofs.Adds.{added-at}
use Rattle.running.proofs.Sums.{sum_is, few}
use Rattle.service.specs.declared.Served.{Served}
use Rattle.superframe.specs.State.{state_in_range, lost_with, next_served, reset_with, after_loss, after_reset}
use Rattle.superframe.specs.Take.{beside_with, take_answer, outcome, next_state}
use Rattle.superframe.specs.declared.state.State.{State}
use Rattle.superframe.specs.declared.taking.Taken.{Taken}
use Rattle.superframe.specs.declared.taking.NotTaken.{NotTaken}
use Rattle.superframe.proofs.Parts.{running-in-range}
use Rattle.superframe.proofs.Counts.{service-counts}
use Rattle.history.specs.Totals.{Asked, take, lose, serve, reset, Made, taking, losing, serving, resetting, Run, begun, then, is_reset, since, added_by, lost_by, given_by, blocks_by, Counted}
use Rattle.history.proofs.Loss.{fresh-in-range}
use Rattle.history.proofs.Ranges.{lose-in-range, service-keeps-range, reset-in-range, take-in-range}
use Rattle.history.proofs.Answers.{answer-is}

-- ---- the states are in range
made-in-range : (s s' : State) (e : Asked) → Made s e s' → state_in_range s ≡ true → state_in_range s' ≡ true
made-in-range s s' e (taking k) h = take-in-range s k h
made-in-range s s' e (losing r m) h = subst (λ (r : Result State Refusal). state_in_range (result_unwrap_or r s) ≡ true) (sym m) (lose-in-range s h)
made-in-range s s' e (serving six sync r m) h =
    subst (λ (r : Result (Served State) Refusal). state_in_range (next_served s r) ≡ true) (sym m) (service-keeps-range s (record { six = six; sync = sync }) h)
made-in-range s s' e (resetting r m) h = subst (λ (r : Result State Refusal). state_in_range (result_unwrap_or r s) ≡ true) (sym m) (reset-in-range s h)

pub run-in-range : (s : State) (es : List Asked) → Run s es → state_in_range s ≡ true
run-in-range s es begun = fresh-in-range
run-in-range s es (then s₀ s' es' e r m) = made-in-range s₀ s e m (run-in-range s₀ es' r)

-- ---- the totals that a call hands back
abbrev totals-of : State → Running
totals-of s = s.totals

module _ (t : Running) where
  -- what call e makes of totals
  after : Asked → Running
  after (take radius sf n) = cond (eqb n 0) (with_taken t (blocks_of radius sf)) (cond (eqb n 3) (with_lost t) t)
  after (lose n) = cond (eqb n 0) (with_lost t) t
  after (serve n) = t
  after (reset n) = cond (eqb n 0) no_running t

answer-totals : (radius : ℕ) (o : Result Unit Refusal) (s : State) (sf : List ℕ)
    → (next_state (take_answer radius o s sf)).totals ≡ cond (eqb (number_in o) 0) (with_taken s.totals (blocks_of radius sf)) (cond (eqb (number_in o) 3) (with_lost s.totals) s.totals)
unfolding beside_with
answer-totals radius (Ok _) s sf = refl
answer-totals radius (Err why) s sf =
    let some = ne_eqb (number_of why) 0 (not_zero why) in
    rw some (either_way (eqb (number_of why) 3) (λ u. rw u) (λ u. rw u))

lose-totals : (s : State) → (after_loss s).totals ≡ cond (eqb (number_in (lost_with s)) 0) (with_lost s.totals) s.totals
unfolding lost_with
lose-totals s = either_way (state_in_range s) (λ t. either_way (has_room s.totals) (λ u. rw (t, u)) (λ u. rw (t, u))) (λ t. rw t)

reset-totals : (s : State) → (after_reset s).totals ≡ cond (eqb (number_in (reset_with s)) 0) no_running s.totals
unfolding reset_with
reset-totals s = either_way (state_in_range s) (λ t. rw t) (λ t. rw t)

made-totals : (s s' : State) (e : Asked) → Made s e s' → s'.totals ≡ after s.totals e
unfolding after
made-totals s s' e (taking k) =
    ap (λ (r : Result Taken NotTaken). (next_state r).totals) (answer-is s k (outcome k.answer) refl) ∙ answer-totals k.radius (outcome k.answer) s k.bytes
made-totals s s' e (losing r m) =
    subst (λ (r : Result State Refusal). (result_unwrap_or r s).totals ≡ after s.totals (lose (number_in r))) (sym m) (lose-totals s)
made-totals s s' e (serving six sync r m) = ap (λ (r : Result (Served State) Refusal). (next_served s r).totals) m ∙ service-counts s six sync
made-totals s s' e (resetting r m) =
    subst (λ (r : Result State Refusal). (result_unwrap_or r s).totals ≡ after s.totals (reset (number_in r))) (sym m) (reset-totals s)

-- ---- counted over the calls
starts : (t : Running) (e : Asked) → is_reset e ≡ true → after t e ≡ no_running
unfolding is_reset after
starts t (take radius sf n) h = absurd (true≢false (sym h))
starts t (lose n) h = absurd (true≢false (sym h))
starts t (serve n) h = absurd (true≢false (sym h))
starts t (reset n) h = rw h

-- a number of the totals to which a superframe that is taken adds x, and a lost one y
module _ (f : Running → ℕ) (x : ℕ → List ℕ → ℕ) (y : ℕ) (none : f no_running ≡ 0)
    (taken : (t : Running) (radius : ℕ) (sf : List ℕ) → f (with_taken t (blocks_of radius sf)) ≡ x radius sf + f t) (lost : (t : Running) → f (with_lost t) ≡ y + f t) where
  more : (t : Running) (e : Asked) → is_reset e ≡ false → f (after t e) ≡ added_by x y e + f t
  unfolding is_reset after added_by
  more t (take radius sf n) h =
      either_way (eqb n 0) (λ u. rw u (taken t radius sf)) (λ u. either_way (eqb n 3) (λ v. rw (u, v) (lost t)) (λ v. rw (u, v) (omega arith)))
  more t (lose n) h = either_way (eqb n 0) (λ u. rw u (lost t)) (λ u. rw u (omega arith))
  more t (serve n) h = omega arith
  more t (reset n) h = rw h (omega arith)

  counted : (s : State) (es : List Asked) → Run s es → f s.totals ≡ total (added_by x y) (since es)
  unfolding since total
  counted s es begun = none
  counted s es (then s₀ s' es' e r m) =
      ap f (made-totals s₀ s e m)
      ∙ either_way (is_reset e)
      (λ t. rw t (ap f (starts s₀.totals e t) ∙ none))
      (λ t. rw t (more s₀.totals e t ∙ ap (λ (n : ℕ). added_by x y e + n) (counted s₀ es' r)))

-- the blocks of programme q of one kind, which stand in one of the three lists of the totals
module _ (q : ℕ) (low : 1 ≤ q) (high : q ≤ 16) (k : ℕ) where
  none_counted : entry (zeros 16) q 0 ≡ 0
  none_counted = get_or-replicate {A = ℕ} 16 (q - 1) 0 0 (omega arith)

  more-blocks : (old : List ℕ) (radius : ℕ) (sf : List ℕ) → entry (added_to old (tallied_by (kind_in radius sf) k)) q 0 ≡ programme_blocks radius k q sf + entry old q 0
  more-blocks old radius sf = omega (arith, added-at old (tallied_by (kind_in radius sf) k) q low high, programme-counted radius sf k q low high)

  blocks-counted : (list : Running → List ℕ) → list no_running ≡ zeros 16
      → ((t : Running) (radius : ℕ) (sf : List ℕ) → list (with_taken t (blocks_of radius sf)) ≡ added_to (list t) (tallied_by (kind_in radius sf) k))
      → ((t : Running) → list (with_lost t) ≡ list t)
      → (s : State) (es : List Asked) → Run s es → entry (list s.totals) q 0 ≡ total (blocks_by q k) (since es)
  blocks-counted list begins taken lost =
      counted (λ t. entry (list t) q 0) (λ radius sf. programme_blocks radius k q sf) 0
      (rw begins none_counted) (λ t radius sf. rw (taken t radius sf) (more-blocks (list t) radius sf)) (λ t. rw (lost t) (omega arith))

pub run-counted : (s : State) (es : List Asked) → Run s es → Counted s es
unfolding no_running with_taken with_lost blocks_of
run-counted s es r =
    record {
      taken = counted (λ t. t.taken) (λ radius sf. 1) 0 refl (λ t radius sf. omega arith) (λ t. omega arith) s es r;
      lost = counted (λ t. t.lost) (λ radius sf. 0) 1 refl (λ t radius sf. omega arith) (λ t. omega arith) s es r;
      clean = λ q l h. blocks-counted q l h 0 (λ t. t.clean) refl (λ t radius sf. refl) (λ t. refl) s es r;
      mended = λ q l h. blocks-counted q l h 1 (λ t. t.mended) refl (λ t radius sf. refl) (λ t. refl) s es r;
      bad = λ q l h. blocks-counted q l h 2 (λ t. t.bad) refl (λ t radius sf. refl) (λ t. refl) s es r;
    }

-- ---- what was given
module _ (s : State) (es : List Asked) (r : Run s es) where
  given_is : s.totals.taken + s.totals.lost ≡ total given_by (since es)
  unfolding no_running with_taken with_lost
  given_is = counted (λ t. t.taken + t.lost) (λ radius sf. 1) 1 refl (λ t radius sf. omega arith) (λ t. omega arith) s es r

  pub run-sums : (q : ℕ) → 1 ≤ q → q ≤ 16
      → total (blocks_by q 0) (since es) + total (blocks_by q 1) (since es) + total (blocks_by q 2) (since es) ≡ 64 * (total given_by (since es) - total lost_by (since es))
  run-sums q l h =
      let c = run-counted s es r in
      let sums = sum_is s.totals (running-in-range s (run-in-range s es r)) (q - 1) (omega arith) in
      omega (arith, sums, c.clean q l h, c.mended q l h, c.bad q l h, c.lost, given_is)

  pub run-full : (total given_by (since es) ≤ 1000000) × ((Full s.totals → total given_by (since es) ≡ 1000000) × (total given_by (since es) ≡ 1000000 → Full s.totals))
  run-full =
      let most = few s.totals (running-in-range s (run-in-range s es r)) in (
        omega (arith, given_is, most),
        (λ f. omega (arith, given_is, most, f.many), λ e. record { many = omega (arith, given_is, e) }),
      )
