-- `sound::fill` meets its contract. Assumes nothing.
use mathlib.Core.Path.{◌≡◌, refl, sym, ap, ◌∙◌}
use Rattle.bits.specs.declared.refusal.Refusal.TheVariants.{Length, Range}
use mathlib.Core.List.{List}
use Prim.Native.Nat.{ℕ}
use Rattle.std.specs.declared.result.Result.TheVariants.{Ok}
use Rattle.tape.specs.Tape.{gathered_from, counts_at}
use borrow.Author.Tests.{ne_eqb}
use lib.ListN.{length}
use Rattle.sound.specs.Sound.{lengths_fit, samples_of, marks_of, fill_syncs}
use Rattle.tape.proofs.Tape.{gathered-counts}
use Rattle.sound.proofs.Samples.{fits, refused-filled, all-filled}
use borrow.Author.Rules.{rules}
use Rattle.sound.proofs.fill.Goals as goal

pub returns-in_default : goal.returns-in_default
unfolding fill_syncs lengths_fit
returns-in_default c =
    let a = c.args in
    refused-filled a.radius a.bytes.now a.factors.now a.samples.now a.marks.now _ Length (rw (ne_eqb (length a.bytes.now) 5120 c.in_default.ensures.cases)) refl

pub returns-then-not-lengths_fit : goal.returns-then-not-lengths_fit
unfolding fill_syncs
returns-then-not-lengths_fit c =
    let a = c.args in
    refused-filled a.radius a.bytes.now a.factors.now a.samples.now a.marks.now _ Length (rw (sym c.lengths_fit.ensures ∙ c.if-not-lengths_fit.true)) refl

pub returns-then-not-is_radius : goal.returns-then-not-is_radius
unfolding fill_syncs
returns-then-not-is_radius c =
    let a = c.args in
    let good = sym c.lengths_fit.ensures ∙ c.if-not-lengths_fit.false in
    refused-filled a.radius a.bytes.now a.factors.now a.samples.now a.marks.now _ Range (rw (good, sym c.is_radius.ensures ∙ c.if-not-is_radius.true)) refl

pub returns-in_err-wrong : goal.returns-in_err-wrong
unfolding fill_syncs
returns-in_err-wrong c =
    let a = c.args in
    let good = sym c.lengths_fit.ensures ∙ c.if-not-lengths_fit.false in
    let chosen = sym c.is_radius.ensures ∙ c.if-not-is_radius.false in
    let e = c.in_err-wrong.field-0.0 in
    refused-filled a.radius a.bytes.now a.factors.now a.samples.now a.marks.now _ e (rw (good, chosen) (sym c.syncs.ensures ∙ c.in_err-wrong.was)) (search rules)

pub fill_all-read-requires : goal.fill_all-read-requires
fill_all-read-requires c =
    let s = fits _ _ _ (sym c.lengths_fit.ensures ∙ c.if-not-lengths_fit.false) in
    record {
      samples_len = s.1;
      marks_len = s.2;
      radius_value = sym c.is_radius.ensures ∙ c.if-not-is_radius.false;
    }

pub returns : goal.returns
unfolding fill_syncs
returns c =
    let a = c.args in
    let good = sym c.lengths_fit.ensures ∙ c.if-not-lengths_fit.false in
    let chosen = sym c.is_radius.ensures ∙ c.if-not-is_radius.false in
    let read = c.fill_all-read.ensures in
    let w = c.in_ok-wrong.wrong in
    let whole : c.in-Some.sf.now ≡ a.bytes.now = c.in-Some.ensures.cases.same in
    all-filled a.radius a.bytes.now a.factors.now a.samples.now a.marks.now _ _ _ w
    (rw (good, chosen) (sym c.syncs.ensures ∙ c.in_ok-wrong.was))
    (c.gathered.ensures ∙ ap (gathered_from w) read.value ∙ gathered-counts a.radius c.in-Some.sf.now w ∙ ap (λ (sf : List ℕ). Ok (counts_at a.radius w sf)) whole)
    (read.samples_after ∙ ap (λ (sf : List ℕ). samples_of a.radius sf a.factors.now) whole)
    (read.marks_after ∙ ap (λ (sf : List ℕ). marks_of a.radius sf a.factors.now) whole)
