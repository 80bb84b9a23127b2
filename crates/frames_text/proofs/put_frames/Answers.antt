-- `put_frames` meets its contract. Assumes nothing.
use mathlib.Core.Path.{refl}
use borrow.Author.Rules.{rules}
use borrow.Author.Tests.{eq-eqb, ne_eqb}
use Rattle.frames_text.specs.Frames.{frame_text, frames_text, frames_put}
use Rattle.frames_text.proofs.put_frames.Goals as goal
use Rattle.frames_text.proofs.put_frames.Goals.{then-samples-ne2048-via-then-samples-ne2048, then-samples-ne2048-via-else-samples-ne2048+then-marks-ne2048}

pub returns-then-samples-ne2048-clause-told : goal.returns-then-samples-ne2048-clause-told
unfolding frames_put
returns-then-samples-ne2048-clause-told c =
    elim c.then-samples-ne2048.branch [
      | then-samples-ne2048-via-then-samples-ne2048 w ↦ rw (ne_eqb _ _ w.if-samples-ne2048.true) refl
      | then-samples-ne2048-via-else-samples-ne2048+then-marks-ne2048 w ↦ rw (eq-eqb _ _ w.if-samples-ne2048.false, ne_eqb _ _ w.if-marks-ne2048.true) refl
    ]

pub returns-clause-same_buffer : goal.returns-clause-same_buffer
returns-clause-same_buffer c = (c.put_turns.ensures (frame_text c.args.samples.now c.args.marks.now) (λ i p q l k. search rules)).same_buffer

pub returns-clause-told : goal.returns-clause-told
unfolding frames_put frames_text
returns-clause-told c =
    rw (eq-eqb _ _ c.if-samples-ne2048.false, eq-eqb _ _ c.if-marks-ne2048.false)
    (c.put_turns.ensures (frame_text c.args.samples.now c.args.marks.now) (λ i p q l k. search rules)).told
