use Rattle.std.proofs.Common.{refl}
use mathlib.Core.List.{[]}
use Rattle.input.specs.Radius.{radius_of, said, unsaid}
use Rattle.input.proofs.radius.radius_at.Goals as goal

pub returns-in-Ok : goal.returns-in-Ok
returns-in-Ok g c = said _ c.radius_of.ensures

pub returns-in-Err-TooLong : goal.returns-in-Err-TooLong
unfolding radius_of
returns-in-Err-TooLong g c = said [] refl

pub returns-in-Err-NotPresent : goal.returns-in-Err-NotPresent
returns-in-Err-NotPresent g c = unsaid refl
