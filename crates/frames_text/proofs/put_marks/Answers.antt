-- `put_marks` meets its contract. Assumes nothing.
use mathlib.Core.List.{[], ◌∷◌}
use Rattle.bits.specs.Letters.{letters}
use Rattle.text.proofs.Pens.{puts_then}
use Rattle.frames_text.specs.Frames.{marks_line}
use Rattle.frames_text.proofs.put_marks.Goals as goal

pub returns : goal.returns
unfolding marks_line letters
returns c = puts_then c.put_all.ensures (puts_then c.put_next.ensures (puts_then {s = _ ∷ []} c.put.ensures (puts_then c.put_row.ensures c.put-2.ensures)))
