-- `frame::sync_of` meets its contract. Assumes nothing.
use Rattle.frame.specs.Frame.{sync_word}
use Rattle.frame.proofs.sync_of.Goals as goal

pub returns-in-A : goal.returns-in-A
unfolding sync_word
returns-in-A c = rw c.in-A.is

pub returns-in-B : goal.returns-in-B
unfolding sync_word
returns-in-B c = rw c.in-B.is
