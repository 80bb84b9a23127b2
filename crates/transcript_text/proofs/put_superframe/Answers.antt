-- `put_superframe` meets its contract. Assumes nothing.
use mathlib.Core.Path.{refl}
use borrow.Author.Rules.{rules}
use borrow.Author.Tests.{eq-eqb, ne_eqb}
use Rattle.text.specs.Entry.{refused_text}
use Rattle.transcript_text.specs.Superframe.{superframe_text, entered_superframe}
use Rattle.transcript_text.proofs.put_superframe.Goals as goal
use Rattle.transcript_text.proofs.put_superframe.Goals.{then-samples-ne2048-via-then-samples-ne2048, then-samples-ne2048-via-else-samples-ne2048+then-marks-ne2048}

pub returns-then-samples-ne2048-clause-told : goal.returns-then-samples-ne2048-clause-told
unfolding entered_superframe refused_text
returns-then-samples-ne2048-clause-told c =
    elim c.then-samples-ne2048.branch [
      | then-samples-ne2048-via-then-samples-ne2048 w ↦ rw (ne_eqb _ _ w.if-samples-ne2048.true) refl
      | then-samples-ne2048-via-else-samples-ne2048+then-marks-ne2048 w ↦ rw (eq-eqb _ _ w.if-samples-ne2048.false, ne_eqb _ _ w.if-marks-ne2048.true) refl
    ]

pub returns-clause-same_buffer : goal.returns-clause-same_buffer
returns-clause-same_buffer c =
    let start = c.args in
    (c.put_whole.ensures (superframe_text start.k start.taken start.samples.now start.marks.now) (λ p q k. search rules)).same_buffer

pub returns-clause-told : goal.returns-clause-told
unfolding entered_superframe
returns-clause-told c =
    let start = c.args in
    rw (eq-eqb _ _ c.if-samples-ne2048.false, eq-eqb _ _ c.if-marks-ne2048.false)
    (c.put_whole.ensures (superframe_text start.k start.taken start.samples.now start.marks.now) (λ p q k. search rules)).told
