-- `kinds::of_programme` meets its contract. Assumes nothing.
use mathlib.Core.Path.{◌≡◌, refl, sym, ap, ◌∙◌}
use borrow.Author.Rules.{rules}
use borrow.Author.Tests.{ne_eqb}
use lib.ListN.{length}
use Rattle.std.proofs.iter.Serving.{serving}
use Rattle.std.specs.declared.result.Result.TheVariants.{Err}
use Rattle.bits.specs.Refused.{number_of, number_in}
use Rattle.bits.proofs.Refused.{not_zero}
use Rattle.bits.specs.Answer.{accepted}
use Rattle.bits.proofs.Made.{made}
use Rattle.wav_sound.specs.Sound.{programme_number}
use Rattle.wav_sound.proofs.Entry.{accepts}
use Rattle.kinds.specs.Kinds.{pair_kind, kinds_of}
use Rattle.kinds.proofs.of_programme.Goals as goal

pub returns-in_err-number_of : goal.returns-in_err-number_of
unfolding kinds_of
returns-in_err-number_of c =
    let refusal = c.in_err-number_of.field-0.0 in
    let same : c.from_residual.result ≡ Err refusal = search rules in
    let n : number_of refusal ≡ programme_number c.args.q (length c.args.marks.now) = c.in_err-number_of.ensures in
    rw (same, ← n, ne_eqb _ _ (not_zero refusal)) refl

pub from_fn-requires : goal.from_fn-requires
from_fn-requires c =
    let within = accepts _ _ _ _ c.number_of.ensures c.in_ok-number_of.was in
    grind serving

pub returns : goal.returns
unfolding kinds_of pair_kind
returns c =
    let within = accepts _ _ _ _ c.number_of.ensures c.in_ok-number_of.was in
    let marks = c.args.marks.now in
    rw (sym c.number_of.ensures ∙ ap number_in c.in_ok-number_of.was)
    (ap accepted (made _ (pair_kind c.args.q marks) _ 64 _ 0 c.from_fn.ensures.items (λ i y q h k. search rules)))
