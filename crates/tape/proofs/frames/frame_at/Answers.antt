-- `tape::frames::frame_at` meets its contract. Assumes nothing.
use mathlib.Core.Path.{ap, ◌∙◌}
use Rattle.tape.specs.Tape.{frame_at}
use Rattle.tape.proofs.Tape.{frame-part, frame-rest, frame-none}
use Rattle.tape.proofs.frames.frame_at.Goals as goal

pub returns-then-sf-a : goal.returns-then-sf-a
returns-then-sf-a c = let sf = c.args.sf.now in frame-none sf _ c.if-sf-a.true ∙ ap (frame_at sf) c.from-a.ensures

pub returns-then-sf-a-lt40 : goal.returns-then-sf-a-lt40
returns-then-sf-a-lt40 c = let sf = c.args.sf.now in frame-rest sf _ c.if-sf-a-lt40.true ∙ ap (frame_at sf) c.from-a.ensures

pub returns : goal.returns
returns c = let sf = c.args.sf.now in frame-part sf _ ∙ ap (frame_at sf) c.from-a.ensures
