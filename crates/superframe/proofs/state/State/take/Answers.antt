-- `superframe::state::State::take` meets its contract. Assumes nothing.
use mathlib.Core.Path.{◌≡◌, refl, sym, ap, ap₂, ◌∙◌}
use mathlib.Core.Bool.{true}
use lib.ListN.{length}
use Rattle.std.specs.Result.{result_unwrap_or}
use Rattle.std.specs.declared.result.Result.{Result}
use Rattle.std.specs.declared.result.Result.TheVariants.{Ok, Err}
use Rattle.bits.specs.declared.refusal.Refusal.{Refusal}
use Rattle.bits.specs.declared.refusal.Refusal.TheVariants.{Length, Range, Sync, Full}
use Rattle.bits.proofs.Tests.{both_left, both_right}
use Rattle.reading.specs.Reading.{is_radius}
use Rattle.sound.specs.Sound.{lengths_fit}
use Rattle.sound.proofs.Samples.{fits}
use Rattle.running.specs.Running.{has_room}
use Rattle.superframe.specs.State.{state_in_range}
use Rattle.superframe.specs.Take.{takable, taking, beside_with}
use Rattle.superframe.specs.declared.state.State.{State}
use Rattle.superframe.proofs.Took.{lost-next, good-fill, lost-fill, refused-took, answered-took}
use Rattle.superframe.proofs.state.State.take.Goals as goal

pub returns-then-not-lengths_fit : goal.returns-then-not-lengths_fit
unfolding taking
returns-then-not-lengths_fit c =
    refused-took _ _ _ _ _ _ _ _ Length (rw (sym c.lengths_fit.ensures ∙ c.if-not-lengths_fit.true)) c.refused.ensures refl refl

pub returns-then-not-can_take : goal.returns-then-not-can_take
unfolding taking
returns-then-not-can_take c =
    let fit = sym c.lengths_fit.ensures ∙ c.if-not-lengths_fit.false in
    refused-took _ _ _ _ _ _ _ _ Range (rw (fit, sym c.can_take.ensures ∙ c.if-not-can_take.true)) c.refused-then-not-can_take.ensures refl refl

pub returns-then-not-has_room : goal.returns-then-not-has_room
unfolding taking
returns-then-not-has_room c =
    let fit = sym c.lengths_fit.ensures ∙ c.if-not-lengths_fit.false in
    let good = sym c.can_take.ensures ∙ c.if-not-can_take.false in
    refused-took _ _ _ _ _ _ _ _ Full (rw (fit, good, sym c.has_room.ensures ∙ c.if-not-has_room.true)) c.refused-then-not-has_room.ensures refl refl

pub returns-in-Err : goal.returns-in-Err
unfolding taking takable
returns-in-Err c =
    let fit : lengths_fit (length c.args.bytes.now) (length c.args.samples.now) (length c.args.marks.now) ≡ true = sym c.lengths_fit.ensures ∙ c.if-not-lengths_fit.false in
    let good : takable c.args.radius c.args.self ≡ true = sym c.can_take.ensures ∙ (c.if-not-can_take.false) in
    let chosen : is_radius c.args.radius ≡ true = both_left (is_radius c.args.radius) (state_in_range c.args.self) good in
    let ranged : state_in_range c.args.self ≡ true = both_right (is_radius c.args.radius) (state_in_range c.args.self) good in
    let free : has_room c.args.self.totals ≡ true = sym c.has_room.ensures ∙ (c.if-not-has_room.false) in
    let a = c.args in
    let left = lost-fill a.radius chosen a.bytes.now a.self.next a.samples.now a.marks.now _ _ _ c.fill.ensures fit c.in-Err.why c.in-Err.is in
    let next = c.unwrap_or.ensures ∙ ap (λ (r : Result State Refusal). result_unwrap_or r a.self) c.lose.ensures ∙ lost-next a.self ranged free in
    refused-took _ _ _ _ _ _ _ _ Sync (rw (fit, good, free, left.1))
    (ap₂ (λ (why : Refusal) (s : State). Err (record { why = why; next = s })) left.0 next)
    left.2 left.3

pub answered-requires : goal.answered-requires
unfolding takable
answered-requires c =
    let fit : lengths_fit (length c.args.bytes.now) (length c.args.samples.now) (length c.args.marks.now) ≡ true = sym c.lengths_fit.ensures ∙ c.if-not-lengths_fit.false in
    let good : takable c.args.radius c.args.self ≡ true = sym c.can_take.ensures ∙ (c.if-not-can_take.false) in
    record {
      bytes_len = (fits _ _ _ fit).0;
      state_value = both_right (is_radius c.args.radius) (state_in_range c.args.self) good;
      totals_value = sym c.has_room.ensures ∙ (c.if-not-has_room.false);
    }

pub returns-in-Ok : goal.returns-in-Ok
unfolding taking takable
returns-in-Ok c =
    let fit : lengths_fit (length c.args.bytes.now) (length c.args.samples.now) (length c.args.marks.now) ≡ true = sym c.lengths_fit.ensures ∙ c.if-not-lengths_fit.false in
    let good : takable c.args.radius c.args.self ≡ true = sym c.can_take.ensures ∙ (c.if-not-can_take.false) in
    let chosen : is_radius c.args.radius ≡ true = both_left (is_radius c.args.radius) (state_in_range c.args.self) good in
    let free : has_room c.args.self.totals ≡ true = sym c.has_room.ensures ∙ (c.if-not-has_room.false) in
    let a = c.args in
    let filled = good-fill a.radius chosen a.bytes.now a.self.next a.samples.now a.marks.now _ _ _ c.fill.ensures fit c.in-Ok.counted c.in-Ok.is in
    answered-took _ _ _ _ _ _ _ _ (rw (fit, good, free, filled.0))
    (ap Ok (c.answered.ensures ∙ ap₂ (beside_with a.self a.bytes.now) filled.1 filled.2))
    filled.3 filled.4
