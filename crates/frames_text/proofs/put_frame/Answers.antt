-- `put_frame` meets its contract. Assumes nothing.
use mathlib.Core.Path.{ap}
use Rattle.text.proofs.Pens.{puts_then, puts_as}
use Rattle.text_rows.proofs.Turns.{part_cut}
use Rattle.frames_text.specs.Frames.{marks_line, samples_line, frame_text}
use Rattle.frames_text.proofs.put_frame.Goals as goal

pub returns : goal.returns
unfolding frame_text
returns c =
    let n = c.args.n in
    puts_then (puts_as (ap (marks_line _) (part_cut 32 n c.args.marks.now)) c.put_marks.ensures)
    (puts_as (ap (samples_line _) (part_cut 32 n c.args.samples.now)) c.put_samples.ensures)
