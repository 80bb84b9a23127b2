-- Laws of the promise.
--     never-full            no history is ever full, so no number is 9
--     other_length          88 bytes are asked for
--     stays                 what is refused with neither 0 nor 3 is refused with 1 or 2
--     taken-so, lost-so, refused-so     what is promised, from what is promised of taking
-- Assumes nothing.
use mathlib.Core.Path.{◌≡◌, refl, sym, ap, ◌∙◌, subst}
use mathlib.Core.Bool.{true, cond}
use mathlib.Core.Logic.{◌⊎◌, inl, inr, ⊎_elim, ◌≢◌}
use mathlib.Core.List.{List}
use Prim.Native.Nat.{ℕ}
use native.Mathlib.Omega.{arith}
use borrow.Author.Tests.{eq-eqb, ne_eqb}
use lib.Dec.{eqb}
use lib.IntN.{ℤ}
use lib.ListN.{length}
use Rattle.std.specs.declared.result.Result.{Result}
use Rattle.std.specs.declared.result.Result.TheVariants.{Ok, Err}
use Rattle.bits.specs.Table.{tabulate}
use Rattle.bits.specs.Refused.{number_of, number_in}
use Rattle.bits.specs.declared.refusal.Refusal.{Refusal}
use Rattle.bits.specs.declared.refusal.Refusal.TheVariants.{Sync}
use Rattle.bits.proofs.Refused.{not_zero, number-same}
use Rattle.bits.proofs.Tests.{either_way}
use Rattle.tape.specs.Tape.{synced, no_blocks}
use Rattle.running.specs.Running.{has_room, no_running}
use Rattle.sound.specs.Sound.{samples_of, marks_of, lengths_fit}
use Rattle.superframe.specs.Take.{takable, taking, take_answer, outcome, number_told, Took}
use Rattle.superframe.specs.declared.state.State.{State}
use Rattle.superframe.specs.declared.taking.Taken.{Taken}
use Rattle.superframe.specs.declared.taking.NotTaken.{NotTaken}
use Rattle.superframe.proofs.Refusals.{told}
use Rattle.outside.specs.Outside.{state_from, packed_at, packed_of, outside_taking, outside_number, beside_after, TookOutside}

begins : has_room no_running ≡ true
unfolding has_room no_running
begins = refl

module _ (radius : ℕ) (b sf : List ℕ) (samples : List ℤ) (marks : List ℕ) where
  pub never-full : outside_number radius b sf samples marks ≢ 9
  unfolding outside_taking taking state_from
  never-full =
      either_way (eqb (length b) 88)
      (λ t. either_way (lengths_fit (length sf) (length samples) (length marks))
      (λ u. either_way (takable radius (state_from b))
      (λ v. either_way (synced sf)
      (λ w. rw (t, u, v, begins, w) (λ e. omega (arith, e)))
      (λ w. rw (t, u, v, begins, w) (λ e. omega (arith, e))))
      (λ v. rw (t, u, v) (λ e. omega (arith, e))))
      (λ u. rw (t, u) (λ e. omega (arith, e))))
      (λ t. rw t (λ e. omega (arith, e)))

  stays : outside_number radius b sf samples marks ≢ 0 → outside_number radius b sf samples marks ≢ 3
      → (outside_number radius b sf samples marks ≡ 1) ⊎ (outside_number radius b sf samples marks ≡ 2)
  unfolding outside_taking taking state_from
  stays =
      either_way (eqb (length b) 88)
      (λ t. either_way (lengths_fit (length sf) (length samples) (length marks))
      (λ u. either_way (takable radius (state_from b))
      (λ v. either_way (synced sf)
      (λ w. rw (t, u, v, begins, w) (λ z _. absurd (z refl)))
      (λ w. rw (t, u, v, begins, w) (λ _ z. absurd (z refl))))
      (λ v. rw (t, u, v) (λ _ _. inr refl)))
      (λ u. rw (t, u) (λ _ _. inl refl)))
      (λ t. rw t (λ _ _. inl refl))

  pub other_length : (length b ≡ 88 → ⊥) → TookOutside radius b sf samples marks 1 b samples marks
  unfolding outside_taking beside_after
  other_length h =
      let no = ne_eqb (length b) 88 h in
      record { number = rw no; beside = rw no; sound = rw no; marked = rw no }

  module _ (size : length b ≡ 88) (s : State) (made : s ≡ state_from b) (r : Result Taken NotTaken) (samples' : List ℤ) (marks' : List ℕ)
      (given : Took radius s sf samples marks r samples' marks') where
    t : Took radius (state_from b) sf samples marks r samples' marks'
    t = subst (λ (s : State). Took radius s sf samples marks r samples' marks') made given

    sized : outside_taking radius b sf samples marks ≡ taking radius (state_from b) sf samples marks
    unfolding outside_taking
    sized = rw (eq-eqb (length b) 88 size)

    is : outside_taking radius b sf samples marks ≡ outcome r
    is = sized ∙ sym (told radius (state_from b) sf samples marks r samples' marks' t)

    with-bytes : (b' : List ℕ) → b' ≡ beside_after radius (outcome r) b sf → TookOutside radius b sf samples marks (number_told r) b' samples' marks'
    with-bytes b' h =
        record {
          number = ap number_in (sym is);
          beside = h ∙ ap (λ (o : Result Unit Refusal). beside_after radius o b sf) (sym is);
          sound = t.sound ∙ ap (λ (o : Result Unit Refusal). cond (eqb (number_in o) 0) (samples_of radius sf (state_from b).next) samples) (sym sized);
          marked = t.marked ∙ ap (λ (o : Result Unit Refusal). cond (eqb (number_in o) 0) (marks_of radius sf (state_from b).next) marks) (sym sized);
        }

    packed-by : number_told r ≢ 1 → number_told r ≢ 2 → (b' : List ℕ) → b' ≡ packed_of r → TookOutside radius b sf samples marks (number_told r) b' samples' marks'
    unfolding beside_after
    packed-by one two b' e =
        let answer = t.answer ∙ ap (λ (o : Result Unit Refusal). take_answer radius o (state_from b) sf) (sym sized ∙ is) in
        with-bytes b' (e ∙ ap packed_of answer ∙ sym (rw (ne_eqb (number_told r) 1 one, ne_eqb (number_told r) 2 two)))

    stays-by : number_told r ≢ 0 → number_told r ≢ 3 → TookOutside radius b sf samples marks (number_told r) b samples' marks'
    unfolding beside_after
    stays-by zero three =
        let same = ap number_in is in
        ⊎_elim
        (λ e. let one : number_told r ≡ 1 = sym same ∙ e in with-bytes b (sym (rw one)))
        (λ e. let two : number_told r ≡ 2 = sym same ∙ e in with-bytes b (sym (rw two)))
        (stays (λ z. zero (sym same ∙ z)) (λ z. three (sym same ∙ z)))

    pub taken-so : (x : Taken) → r ≡ Ok x → (b' : List ℕ) → b' ≡ tabulate 88 (packed_at x.next.next x.next.after x.blocks) → TookOutside radius b sf samples marks 0 b' samples' marks'
    taken-so x e b' h =
        subst (λ (n : ℕ). TookOutside radius b sf samples marks n b' samples' marks') (ap number_told e)
        (packed-by (rw e (λ z. omega (arith, z))) (rw e (λ z. omega (arith, z))) b' (h ∙ ap packed_of (sym e)))

    pub lost-so : (x : NotTaken) → r ≡ Err x → x.why ≡ Sync → (b' : List ℕ) → b' ≡ tabulate 88 (packed_at x.next.next x.next.after no_blocks)
        → TookOutside radius b sf samples marks 3 b' samples' marks'
    lost-so x e sync b' h =
        let three : number_told r ≡ 3 = rw (e, sync) in
        subst (λ (n : ℕ). TookOutside radius b sf samples marks n b' samples' marks') three
        (packed-by (λ z. omega (arith, z, three)) (λ z. omega (arith, z, three)) b' (h ∙ ap packed_of (sym e)))

    pub refused-so : (x : NotTaken) → r ≡ Err x → x.why ≢ Sync → TookOutside radius b sf samples marks (number_of x.why) b samples' marks'
    refused-so x e n =
        subst (λ (n : ℕ). TookOutside radius b sf samples marks n b samples' marks') (ap number_told e)
        (stays-by (rw e (not_zero x.why)) (rw e (λ z. n (number-same x.why Sync z))))
