-- `tape::blocks::counts` meets its contract. Assumes nothing.
use mathlib.Core.Path.{◌≡◌, sym, ap, ◌∙◌}
use Rattle.std.specs.declared.result.Result.{Result}
use Rattle.std.specs.declared.result.Result.TheVariants.{Err}
use Prim.Native.Nat.{ℕ}
use lib.ListN.{length}
use borrow.Author.Tests.{ne_eqb}
use Rattle.bits.specs.declared.refusal.Refusal.{Refusal}
use Rattle.reading.specs.Reading.{ordinary}
use Rattle.tape.specs.Tape.{gathered_from, counted_with, syncs_of, counts_of}
use Rattle.tape.proofs.Tape.{gathered-counts}
use borrow.Author.Rules.{rules}
use Rattle.tape.proofs.blocks.counts.Goals as goal

pub returns-in_default : goal.returns-in_default
unfolding counts_of syncs_of
returns-in_default c = rw (ne_eqb (length c.args.bytes.now) 5120 c.in_default.ensures.cases)

pub returns-in_err-wrong : goal.returns-in_err-wrong
unfolding counts_of
returns-in_err-wrong c =
    let told : c.from_residual.result ≡ Err c.in_err-wrong.field-0.0 = search rules in
    rw (told, sym c.in-Some.ensures.cases.same, sym c.syncs.ensures ∙ c.in_err-wrong.was)

pub returns : goal.returns
unfolding counts_of
returns c =
    let sf = c.in-Some.sf.now in
    let wrong = c.in_ok-wrong.wrong in
    rw (sym c.in-Some.ensures.cases.same)
    (c.gathered.ensures ∙ ap (gathered_from wrong) c.all_marks.ensures ∙ gathered-counts ordinary sf wrong
    ∙ ap (λ (s : Result ℕ Refusal). counted_with ordinary s sf) (sym c.in_ok-wrong.was ∙ c.syncs.ensures))
