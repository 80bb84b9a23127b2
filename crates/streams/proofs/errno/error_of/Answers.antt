use Rattle.std.proofs.Common.{ap, ◌∙◌}
use lib.IntN.{nat_abs}
use mir.Syntax.{w32}
use mir.ValLaws.{to_z-of_z}
use Rattle.streams.specs.Error.{error_of}
use Rattle.streams.proofs.Error.{above-nought}
use Rattle.streams.proofs.errno.error_of.Goals as goal

pub returns-then-number-lt1 : goal.returns-then-number-lt1
unfolding error_of
returns-then-number-lt1 c =
    let read = to_z-of_z w32 c.args.number c.ranges.number in
    let t = rw read at c.if-number-lt1.true in
    rw t

pub returns : goal.returns
unfolding error_of
returns c =
    let read = to_z-of_z w32 c.args.number c.ranges.number in
    let t = rw read at c.if-number-lt1.false in
    rw t (ap nat_abs (read ∙ (above-nought c.args.number t).0))
