-- `tape::frames::wrong_at` meets its contract. Assumes nothing.
use mathlib.Core.Path.{ap₂, ◌∙◌}
use Rattle.frame.specs.Read.{wrong_sync}
use Rattle.tape.specs.Tape.{wrong_at}
use Rattle.tape.proofs.frames.wrong_at.Goals as goal

pub returns : goal.returns
unfolding wrong_at
returns c = c.sync_errors.ensures ∙ ap₂ wrong_sync c.letter_of.ensures c.frame_at.ensures
