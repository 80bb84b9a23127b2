-- Laws of taking a superframe.
--     lost-next         the state after a loss, where the state is in its range and its history has room
--     good-fill, lost-fill      two lists of their lengths that were to be filled: with every sync in order, or with one that is not
--     refused-by        the refusal that a number is
--     refused-took      a refusal meets the promise: nothing is written
--     answered-took     and so does an answer, with both lists filled
-- Assumes nothing.
use mathlib.Core.Path.{◌≡◌, refl, sym, ap, ◌∙◌}
use mathlib.Core.Bool.{true, false, cond}
use mathlib.Core.Logic.{◌≢◌}
use mathlib.Core.List.{List}
use Prim.Native.Nat.{ℕ}
use native.Mathlib.Omega.{arith}
use lib.Dec.{eqb}
use lib.IntN.{ℤ}
use lib.ListN.{length}
use borrow.Author.Tests.{eq-eqb, ne_eqb}
use Rattle.std.specs.declared.result.Result.{Result}
use Rattle.std.specs.declared.result.Result.TheVariants.{Ok, Err}
use Rattle.bits.specs.Refused.{number_of, number_in}
use Rattle.bits.specs.declared.refusal.Refusal.{Refusal}
use Rattle.bits.specs.declared.refusal.Refusal.TheVariants.{Sync}
use Rattle.bits.proofs.Refused.{not_zero, number-same, unrefused, ok_same}
use Rattle.bits.proofs.Tests.{either_way}
use Rattle.reading.specs.Reading.{is_radius}
use Rattle.tape.specs.Tape.{synced, wrong_bits, blocks_of, counts_at, counted_with, sync_number, syncs_of}
use Rattle.tape.proofs.Tape.{syncs-number, syncs-known}
use Rattle.running.specs.Running.{has_room}
use Rattle.sound.specs.Sound.{samples_of, marks_of, lengths_fit, fill_number, fill_syncs, Filled}
use Rattle.sound.proofs.Samples.{fits}
use Rattle.tape.specs.declared.blocks.Counted.{Counted}
use Rattle.superframe.specs.State.{state_in_range, lost_state, lost_with, after_loss}
use Rattle.superframe.specs.Take.{taking, beside_with, refused_with, Took}
use Rattle.superframe.specs.declared.state.State.{State}
use Rattle.superframe.specs.declared.taking.Taken.{Taken}
use Rattle.superframe.specs.declared.taking.NotTaken.{NotTaken}

pub lost-next : (s : State) → state_in_range s ≡ true → has_room s.totals ≡ true → after_loss s ≡ lost_state s
unfolding lost_with
lost-next s e r = rw (e, r)

-- the number that counting gives is that of the syncs
counts-number : (radius : ℕ) (o : Result ℕ Refusal) (sf : List ℕ) → number_in (counted_with radius o sf) ≡ number_in o
counts-number radius (Ok w) sf = refl
counts-number radius (Err why) sf = refl

module _ (radius : ℕ) (chosen : is_radius radius ≡ true) (sf factors : List ℕ) (samples : List ℤ) (marks : List ℕ) (r : Result Counted Refusal) (samples' : List ℤ) (marks' : List ℕ)
    (f : Filled radius sf factors samples marks r samples' marks') (fit : lengths_fit (length sf) (length samples) (length marks) ≡ true) where
  counted : r ≡ counted_with radius (syncs_of sf) sf
  unfolding fill_syncs
  counted = f.answer ∙ rw (fit, chosen)

  filled : fill_number radius sf samples marks ≡ cond (synced sf) 0 3
  unfolding fill_number sync_number
  filled = rw (fit, chosen, eq-eqb (length sf) 5120 (fits (length sf) (length samples) (length marks) fit).0)

  numbered : number_in r ≡ cond (synced sf) 0 3
  unfolding sync_number
  numbered =
      ap number_in counted ∙ counts-number radius (syncs_of sf) sf ∙ syncs-number sf
      ∙ rw (eq-eqb (length sf) 5120 (fits (length sf) (length samples) (length marks) fit).0)

  pub good-fill : (x : Counted) → r ≡ Ok x → (synced sf ≡ true) × (x.wrong ≡ wrong_bits sf) × (x.blocks ≡ blocks_of radius sf) × (samples' ≡ samples_of radius sf factors) × (marks' ≡ marks_of radius sf factors)
  good-fill x e =
      let zero : number_in r ≡ 0 = rw e in
      let t : synced sf ≡ true = either_way (synced sf) (λ t. t) (λ t. let three : number_in r ≡ 3 = numbered ∙ rw t in absurd (omega (arith, zero, three))) in
      let u : fill_number radius sf samples marks ≡ 0 = filled ∙ rw t in
      let w = unrefused (syncs_of sf) (sym (counts-number radius (syncs_of sf) sf) ∙ sym (ap number_in counted) ∙ zero) in
      let is : x ≡ counts_at radius w.0 sf = ok_same (sym e ∙ counted ∙ ap (λ (o : Result ℕ Refusal). counted_with radius o sf) w.1) in
      (t, ap (λ (x : Counted). x.wrong) is ∙ (syncs-known sf w.0 w.1).1, ap (λ (x : Counted). x.blocks) is, f.sound ∙ rw u, f.marked ∙ rw u)

  pub lost-fill : (why : Refusal) → r ≡ Err why → (why ≡ Sync) × (synced sf ≡ false) × (samples' ≡ samples) × (marks' ≡ marks)
  lost-fill why e =
      let some : number_in r ≢ 0 = rw e (not_zero why) in
      let t : synced sf ≡ false = either_way (synced sf) (λ t. absurd (some (numbered ∙ rw t))) (λ t. t) in
      let three : number_of why ≡ 3 = ap number_in (sym e) ∙ numbered ∙ rw t in
      let u : fill_number radius sf samples marks ≡ 3 = filled ∙ rw t in
      (number-same why Sync three, t, f.sound ∙ rw u, f.marked ∙ rw u)

-- a number that is a refusal's comes with that refusal
pub refused-by : {A : Type 0} (r : Result A Refusal) (why : Refusal) → number_in r ≡ number_of why → r ≡ Err why
refused-by (Ok x) why e = absurd (not_zero why (sym e))
refused-by (Err w) why e = ap Err (number-same w why e)

module _ (radius : ℕ) (s : State) (sf : List ℕ) (samples : List ℤ) (marks : List ℕ) (r : Result Taken NotTaken) (samples' : List ℤ) (marks' : List ℕ) where
  pub refused-took : (why : Refusal) → taking radius s sf samples marks ≡ Err why → r ≡ Err (refused_with why s)
      → samples' ≡ samples → marks' ≡ marks → Took radius s sf samples marks r samples' marks'
  refused-took why e q x m =
      let some : eqb (number_of why) 0 ≡ false = ne_eqb (number_of why) 0 (not_zero why) in
      record { answer = rw e q; sound = rw (e, some) x; marked = rw (e, some) m }

  pub answered-took : taking radius s sf samples marks ≡ Ok tt → r ≡ Ok (beside_with s sf (wrong_bits sf) (blocks_of radius sf))
      → samples' ≡ samples_of radius sf s.next → marks' ≡ marks_of radius sf s.next → Took radius s sf samples marks r samples' marks'
  answered-took e q x m = record { answer = rw e q; sound = rw e x; marked = rw e m }
