-- `sample::code_of` meets its contract: the sample times 2^factor, over four, is the code at every factor. Assumes nothing.
use Prim.Native.Nat.{◌^◌}
use lib.IntN.{pos, ◌*ℤ◌}
use lib.Signed.{mag_shr, shr_z}
use mir.Syntax.{w16}
use mir.ValLaws.{to_z-of_z, sfits_le}
use borrow.Author.Tests.{le-leb}
use Rattle.sample.specs.Sample.{code_answer}
use Rattle.sample.proofs.Sample.{power-read, reached, reach-fits, reach-past, room-sample, grown}
use Rattle.sample.proofs.code_of.Goals as goal

pub returns-then-factor-reach : goal.returns-then-factor-reach
unfolding code_answer
returns-then-factor-reach c =
    let x = c.args.sample in
    rw (
      le-leb c.args.factor 7 c.if-factor-gt7.false,
      reach-past x c.args.factor c.reach.result c.if-factor-gt7.false (reached x c.reach.result c.ranges.sample c.reach.ensures) c.if-factor-reach.true,
    )

pub overflow_mul-grown : goal.overflow_mul-grown
overflow_mul-grown c =
    let x = c.args.sample in
    let f = c.args.factor in
    let small = c.if-factor-gt7.false in
    let inside = reach-fits x f c.reach.result small (reached x c.reach.result c.ranges.sample c.reach.ensures) c.if-factor-reach.false in
    rw (to_z-of_z w16 x c.ranges.sample, power-read f small) (room-sample x f small inside)

pub returns : goal.returns
unfolding code_answer
returns c =
    let x = c.args.sample in
    let f = c.args.factor in
    let small = c.if-factor-gt7.false in
    let inside = reach-fits x f c.reach.result small (reached x c.reach.result c.ranges.sample c.reach.ensures) c.if-factor-reach.false in
    let product = x *ℤ pos (2 ^ f) in
    let room = room-sample x f small inside in
    rw (
      to_z-of_z w16 x c.ranges.sample,
      power-read f small,
      to_z-of_z w16 product room,
      to_z-of_z w16 (shr_z product 4) (sfits_le (mag_shr product 4) room),
      grown x f,
      le-leb f 7 small,
      inside,
    )
