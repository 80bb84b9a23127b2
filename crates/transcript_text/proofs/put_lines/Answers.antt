-- `put_lines` meets its contract. Assumes nothing.
use mathlib.Core.Path.{◌≡◌, refl, ap, ◌∙◌}
use mathlib.Core.List.{List}
use Prim.Native.Nat.{ℕ}
use borrow.Author.Tests.{eq-eqb}
use lib.IntN.{ℤ}
use lib.ListN.{length}
use Rattle.text.specs.Page.{Page, put_text}
use Rattle.text.specs.Pens.{Puts}
use Rattle.text.proofs.Pens.{puts_as, puts_then}
use Rattle.frames_text.specs.Frames.{frames_text, frames_put}
use Rattle.transcript_text.specs.Superframe.{head_line, superframe_text}
use Rattle.transcript_text.proofs.put_lines.Goals as goal

-- with 2,048 samples and marks all lines of the frames are put
all-frames : (p : Page) (samples : List ℤ) (marks : List ℕ) → (length samples ≡ 2048) × (length marks ≡ 2048) →
    frames_put p samples marks ≡ put_text p (frames_text samples marks)
unfolding frames_put
all-frames p samples marks h = rw (eq-eqb _ _ h.0, eq-eqb _ _ h.1) refl

pub returns-in-Ok : goal.returns-in-Ok
unfolding superframe_text
returns-in-Ok c =
    let frames : Puts c.put_blocks.new.pen c.put_frames.new.pen _ =
    record { same_buffer = c.put_frames.ensures.same_buffer; told = c.put_frames.ensures.told ∙ all-frames _ _ _ c.requires } in
    rw c.in-Ok.is (puts_then c.put_head.ensures (puts_then c.put_beside.ensures (puts_then c.put_wrong.ensures (puts_then c.put_blocks.ensures frames))))

pub returns-in-Err : goal.returns-in-Err
unfolding superframe_text
returns-in-Err c = rw c.in-Err.is (puts_as (ap (head_line c.args.k) c.number.ensures) c.put_head-in-Err.ensures)
