-- `sample::sample_of` meets its contract: four times the code, over 2^factor, is the sample at every factor. Assumes nothing.
use Prim.Native.Nat.{◌^◌}
use lib.IntN.{pos, ◌*ℤ◌}
use lib.Signed.{mag_shr, shr_z}
use mir.Syntax.{w16}
use mir.ValLaws.{to_z-of_z, sfits_le}
use borrow.Author.Tests.{le-leb}
use Rattle.sample.specs.Sample.{sample_answer}
use Rattle.sample.proofs.Sample.{reached, reach-code, reach-none, room-code, shrunk}
use Rattle.sample.proofs.sample_of.Goals as goal

pub returns-then-reach-ge8192 : goal.returns-then-reach-ge8192
unfolding sample_answer
returns-then-reach-ge8192 c =
    let x = c.args.code in
    rw (
      le-leb c.args.factor 7 c.if-factor-gt7.false,
      reach-none x c.reach.result (reached x c.reach.result c.ranges.code c.reach.ensures) c.if-reach-ge8192.true,
    )

pub overflow_mul-four : goal.overflow_mul-four
overflow_mul-four c =
    let x = c.args.code in
    let inside = reach-code x c.reach.result (reached x c.reach.result c.ranges.code c.reach.ensures) c.if-reach-ge8192.false in
    rw (to_z-of_z w16 x c.ranges.code) (room-code x inside)

pub returns : goal.returns
unfolding sample_answer
returns c =
    let x = c.args.code in
    let f = c.args.factor in
    let inside = reach-code x c.reach.result (reached x c.reach.result c.ranges.code c.reach.ensures) c.if-reach-ge8192.false in
    let four = x *ℤ pos 4 in
    let room = room-code x inside in
    rw (
      to_z-of_z w16 x c.ranges.code,
      to_z-of_z w16 four room,
      to_z-of_z w16 (shr_z four (2 ^ f)) (sfits_le (mag_shr four (2 ^ f)) room),
      shrunk x f,
      le-leb f 7 c.if-factor-gt7.false,
      inside,
    )
