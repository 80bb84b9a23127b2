-- `frame_writer::write` meets its contract. Assumes nothing.
use mathlib.Core.Path.{◌≡◌, refl, ap, ◌∙◌}
use lib.ListN.{length}
use Rattle.std.specs.declared.result.Result.TheVariants.{Err}
use Rattle.bits.specs.Bits.{bytes_of}
use Rattle.bits.specs.Refused.{number_of}
use Rattle.bits.proofs.Refused.{not_zero}
use Rattle.frame.specs.Frame.{frame_bits, frame_bytes}
use Rattle.frame_writer.proofs.Writing.{number-zero, refusal, success}
use borrow.Author.Rules.{rules}
use Rattle.frame_writer.proofs.write.Goals as goal

pub returns-in_err-writable : goal.returns-in_err-writable
returns-in_err-writable c =
    let a = c.args in
    let e = c.in_err-writable.field-0.0 in
    let told : c.from_residual.result ≡ Err e = search rules in
    rw told (refusal a.letter a.service _ a.out.now (number_of e) (search rules) (not_zero e))

pub fill-requires : goal.fill-requires
fill-requires c =
    let a = c.args in
    (number-zero (length a.out.now) a.service _ c.in_ok-writable.ensures).0

pub returns : goal.returns
unfolding frame_bits frame_bytes
returns c =
    let a = c.args in
    success a.letter a.service _ a.out.now 0 (search rules) _ refl
    (c.fill.ensures
    ∙ ap bytes_of (c.joined-bits.ensures ∙ simp (c.carried-sent.ensures, c.interleaved-front.ensures, c.interleaved-back.ensures)))
