-- What running totals refuse, in document 02's words (P7: "Refusals: 9, a full history, comes after 2").
--     tells-broken, tells-full      the tests tell whether the totals break their sums, and whether the history is full
--     StepRefuses t s               what is answered to one superframe more: the numbers in their order, and under a refusal the totals stay as given
--     step-refuses                  THE REFUSALS of a superframe taken and of one lost
--     take-counts, lose-counts      what each adds where nothing is refused
-- Assumes nothing.
use mathlib.Core.Path.{◌≡◌, refl, sym, subst, ◌∙◌}
use mathlib.Core.Bool.{true, false}
use mathlib.Core.Logic.{◌≢◌}
use Prim.Native.Nat.{◌+◌, ◌-◌, ◌<◌}
use native.Mathlib.Omega.{arith}
use borrow.Author.Tests.{eqb-false, leb-false, ltb-true, ltb-false}
use Rattle.std.specs.Result.{result_unwrap_or}
use Rattle.std.specs.declared.result.Result.{Result}
use Rattle.std.specs.declared.result.Result.TheVariants.{Ok, Err}
use Rattle.bits.specs.Refused.{number_in}
use Rattle.bits.specs.declared.refusal.Refusal.{Refusal}
use Rattle.bits.proofs.Refused.{not_zero}
use Rattle.bits.specs.Order.{Refused, Accepted}
use Rattle.bits.proofs.Tests.{either_way}
use Rattle.bits.proofs.Every.{every-missed}
use Rattle.bits.proofs.Order.{Tells, tested}
use Rattle.running.specs.Running.{adds_up, programme_fits, sums_fit, running_in_range, has_room, with_taken, with_lost, step_number, allowed, after, stepped_to, taken_step, lost_step}
use Rattle.running.specs.Document.{Broken, sum, over, Full, TakenAdds, LostAdds}
use Rattle.tape.specs.declared.blocks.Blocks.{Blocks}
use Rattle.running.specs.declared.Running.{Running}
use Rattle.running.proofs.Sums.{programmes, sixteen, itself, sum_is, few}
use Rattle.running.proofs.More.{allowed-number}
use Rattle.running.proofs.Adds.{taken-adds, lost-adds}

module _ (t : Running) where
  broken-sum : sums_fit t ≡ false → Broken t
  unfolding sums_fit adds_up
  broken-sum e =
      let m = every-missed (programme_fits t) programmes 0 e in
      let within : m.place < 16 = omega (arith, m.there, sixteen) in
      let fails = rw (itself m.place within) at m.fails in
      let from_one : m.place + 1 - 1 ≡ m.place = omega arith in
      sum (m.place + 1) (omega arith) (omega arith) (rw from_one (eqb-false _ _ fails))

  broken : running_in_range t ≡ false → Broken t
  unfolding running_in_range
  broken e =
      either_way (sums_fit t)
      (λ u. over (leb-false (t.taken + t.lost) 1_000_000 (rw u at e)))
      (λ u. broken-sum u)

  whole : running_in_range t ≡ true → Broken t → ⊥
  whole e (sum q l m h) = h (sum_is t e (q - 1) (omega arith))
  whole e (over h) = omega (arith, few t e)

  pub tells-broken : Tells (Broken t) (running_in_range t)
  tells-broken = record { there = broken; away = whole }

  pub tells-full : Tells (Full t) (has_room t)
  unfolding has_room
  tells-full =
      record {
        there = λ e. record { many = ltb-false (t.taken + t.lost) 1_000_000 e };
        away = λ e f. let few = ltb-true (t.taken + t.lost) 1_000_000 e in omega (arith, few, f.many);
      }

  pub record StepRefuses (s : Result Running Refusal) : Type 0 where
    pub order : Refused (Broken t) 2 (Refused (Full t) 9 Accepted) (number_in s)
    pub given : number_in s ≢ 0 → result_unwrap_or s t ≡ t

  number-order : Refused (Broken t) 2 (Refused (Full t) 9 Accepted) (step_number t)
  unfolding step_number
  number-order = tested _ _ tells-broken (tested _ _ tells-full refl)

  module _ (next : Running) where
    -- what is answered, and by which number
    answers : (a : Result (Unit {0}) Refusal) → (number_in (after a next) ≡ number_in a) × (number_in (after a next) ≢ 0 → result_unwrap_or (after a next) t ≡ t)
    answers (Ok u) = (refl, λ h. absurd (h refl))
    answers (Err e) = (refl, λ h. refl)

    pub step-refuses : StepRefuses (stepped_to t next)
    unfolding stepped_to
    step-refuses =
        let a = answers (allowed t) in
        record {
          order = subst (Refused (Broken t) 2 (Refused (Full t) 9 Accepted)) (sym (a.0 ∙ allowed-number t)) number-order;
          given = a.1;
        }

    accepts : (a : Result (Unit {0}) Refusal) → number_in (after a next) ≡ 0 → result_unwrap_or (after a next) t ≡ next
    accepts (Ok u) e = refl
    accepts (Err e) h = absurd (not_zero e h)

    follows : number_in (stepped_to t next) ≡ 0 → result_unwrap_or (stepped_to t next) t ≡ next
    unfolding stepped_to
    follows e = accepts (allowed t) e

  pub take-counts : (b : Blocks) → number_in (taken_step t b) ≡ 0 → TakenAdds t b (result_unwrap_or (taken_step t b) t)
  unfolding taken_step
  take-counts b e = rw (follows (with_taken t b) e) (taken-adds t b)

  pub lose-counts : number_in (lost_step t) ≡ 0 → LostAdds t (result_unwrap_or (lost_step t) t)
  unfolding lost_step
  lose-counts e = rw (follows (with_lost t) e) (lost-adds t)
