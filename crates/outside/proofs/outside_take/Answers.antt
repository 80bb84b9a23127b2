-- `outside::outside_take` meets its contract: what is promised of `State::take`, over the bytes. Assumes nothing.
use mathlib.Core.Path.{◌∙◌}
use Rattle.tape.specs.Tape.{no_blocks}
use Rattle.outside.proofs.Took.{other_length, taken-so, lost-so, refused-so}
use Rattle.outside.proofs.outside_take.Goals as goal

pub returns-then-beside-ne88 : goal.returns-then-beside-ne88
returns-then-beside-ne88 c = other_length _ _ _ _ _ c.if-beside-ne88.true

pub returns-in-Ok : goal.returns-in-Ok
returns-in-Ok c =
    taken-so _ _ _ _ _ c.if-beside-ne88.false _ c.state_from.ensures _ _ _ c.take.ensures c.in-Ok.taken c.in-Ok.is _ (c.copy_from_slice.ensures.after ∙ c.packed.ensures)

pub returns-in-Sync : goal.returns-in-Sync
unfolding no_blocks
returns-in-Sync c =
    lost-so _ _ _ _ _ c.if-beside-ne88.false _ c.state_from.ensures _ _ _ c.take.ensures c.in-Err.refused c.in-Err.is c.in-Sync.is _ (c.copy_from_slice-in-Sync.ensures.after ∙ c.packed-in-Sync.ensures)

pub returns-in_default : goal.returns-in_default
returns-in_default c =
    rw c.number.ensures (refused-so _ _ _ _ _ c.if-beside-ne88.false _ c.state_from.ensures _ _ _ c.take.ensures c.in-Err.refused c.in-Err.is c.in_default.not-Sync)
