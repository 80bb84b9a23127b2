-- The factors read in a superframe are those of the samples of the second one after it (document 01, "Scale words").
--     taken_next, taken-programmes, lost-state     what one call hands back
--     silent            without factors every sample is 0 and every mark 3
--     two-ahead         THE LEAD OF TWO, over three calls; the one between may be lost
--     loss-next         after a loss the next superframe still has its factors
--     loss-none         and the one after that has none
--     two-ahead-lose, lose-next, lose-none, lose-lose-none      the same where a superframe, or two, are lost through `lose`
-- Assumes nothing.
use mathlib.Core.Path.{◌≡◌, ap, subst, ◌∙◌}
use mathlib.Core.Logic.{◌⊎◌, ⊎_elim}
use mathlib.Core.List.{List}
use Prim.Native.Nat.{ℕ, ◌%◌}
use native.Mathlib.Omega.{arith}
use lib.IntN.{pos}
use lib.ListN.{get_or, get_or-replicate}
use Rattle.bits.specs.Refused.{number_in}
use Rattle.bits.specs.Table.{tabulate}
use Rattle.bits.proofs.Table.{tab-ext}
use Rattle.superframe.specs.State.{missing, lost_state, lost_with, after_loss}
use Rattle.sound.specs.Sound.{sound_at, mark_with, sample_at, mark_at, in_rows, samples_of, marks_of}
use Rattle.beside.specs.Beside.{programmes_of}
use Rattle.superframe.specs.Take.{beside_with, next_state, handed}
use Rattle.history.specs.Calls.{Call, Accepted, LostIn, HeardAt, Silent}
use Rattle.superframe.specs.declared.state.State.{State}
use Rattle.history.proofs.Loss.{lose-keeps-first, lose-twice}
use Rattle.history.proofs.Answers.{numbered, accepted-is, lost-is}

-- ---- one call
module _ (s : State) (k : Call s) where
  pub heard : Accepted k → HeardAt k s.next
  heard z = record { sounds = k.took.sound ∙ rw (numbered s k ∙ z); marks = k.took.marked ∙ rw (numbered s k ∙ z) }

  -- at whatever factors the state brought
  heard-at : (factors : List ℕ) → s.next ≡ factors → Accepted k → HeardAt k factors
  heard-at factors e z = subst (HeardAt k) e (heard z)

  pub taken_next : Accepted k → ((next_state k.answer).next ≡ s.after) × ((next_state k.answer).after ≡ (programmes_of k.bytes).factors)
  unfolding beside_with
  taken_next z = let is = accepted-is s k z in (rw is, rw is)

  pub taken-programmes : Accepted k → (handed k.answer).programmes ≡ programmes_of k.bytes
  unfolding beside_with
  taken-programmes z = rw (accepted-is s k z)

  pub lost-state : LostIn k → next_state k.answer ≡ lost_state s
  lost-state z = rw (lost-is s k z)

  -- taken or lost, the factors move on by one
  moved : Accepted k ⊎ LostIn k → (next_state k.answer).next ≡ s.after
  moved = ⊎_elim (λ z. (taken_next z).0) (λ z. ap (λ (t : State). t.next) (lost-state z))

-- ---- no factors
none-there : (n : ℕ) → get_or missing (n % 32) 0 ≡ 8
unfolding missing
none-there n = get_or-replicate 32 (n % 32) 8 0 (omega arith)

pub silent : (radius : ℕ) (sf : List ℕ) → (samples_of radius sf missing ≡ tabulate 2048 (λ n. pos 0)) × (marks_of radius sf missing ≡ tabulate 2048 (λ n. 3))
unfolding samples_of marks_of sample_at mark_at sound_at mark_with
silent radius sf = (
  tab-ext 2048 (in_rows (sample_at radius sf missing)) (λ n. pos 0) (λ n l. rw (none-there n)),
  tab-ext 2048 (in_rows (mark_at radius sf missing)) (λ n. 3) (λ n l. rw (none-there n)),
)

silent-at : (s : State) (k : Call s) → s.next ≡ missing → Accepted k → Silent k
silent-at s k e z =
    let h = heard-at s k missing e z in
    record { sounds = h.sounds ∙ (silent k.radius k.bytes).0; marks = h.marks ∙ (silent k.radius k.bytes).1 }

-- ---- three calls
module _ (s : State) (first : Call s) (second : Call (next_state first.answer)) where
  pub two-ahead : (third : Call (next_state second.answer)) → Accepted first → Accepted second ⊎ LostIn second → Accepted third → HeardAt third (programmes_of first.bytes).factors
  two-ahead third a b = heard-at (next_state second.answer) third _ (moved (next_state first.answer) second b ∙ (taken_next s first a).1)

  pub loss-next : LostIn first → Accepted second → HeardAt second s.after
  loss-next a = heard-at (next_state first.answer) second _ (ap (λ (t : State). t.next) (lost-state s first a))

  pub loss-none : (third : Call (next_state second.answer)) → LostIn first → Accepted second ⊎ LostIn second → Accepted third → Silent third
  loss-none third a b = silent-at (next_state second.answer) third (moved (next_state first.answer) second b ∙ ap (λ (t : State). t.after) (lost-state s first a))

-- ---- a superframe that is lost through `lose`
pub two-ahead-lose : (s : State) (first : Call s) (third : Call (after_loss (next_state first.answer))) → Accepted first → number_in (lost_with (next_state first.answer)) ≡ 0
    → Accepted third → HeardAt third (programmes_of first.bytes).factors
two-ahead-lose s first third a b =
    let t = next_state first.answer in
    heard-at (after_loss t) third _ ((lose-keeps-first t b).0 ∙ (taken_next s first a).1)

module _ (s : State) (h : number_in (lost_with s) ≡ 0) where
  pub lose-next : (second : Call (after_loss s)) → Accepted second → HeardAt second s.after
  lose-next second = heard-at (after_loss s) second _ (lose-keeps-first s h).0

  pub lose-none : (second : Call (after_loss s)) (third : Call (next_state second.answer)) → Accepted second ⊎ LostIn second → Accepted third → Silent third
  lose-none second third b = silent-at (next_state second.answer) third (moved (after_loss s) second b ∙ (lose-keeps-first s h).1)

  pub lose-lose-none : number_in (lost_with (after_loss s)) ≡ 0 → (third : Call (after_loss (after_loss s))) → Accepted third → Silent third
  lose-lose-none again third = silent-at (after_loss (after_loss s)) third (rw (lose-twice s h again))
