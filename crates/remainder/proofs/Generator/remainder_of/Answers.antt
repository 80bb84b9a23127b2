-- `remainder::Generator::remainder_of` meets its contract. The loop's invariant: the register's digits are the division so far. Assumes nothing.
use mathlib.Core.Path.{ap, ◌∙◌}
use Prim.Native.Nat.{◌<◌}
use native.Mathlib.Omega.{arith}
use lib.Pow.{pow_pos}
use lib.ListN.{length}
use borrow.Author.Rules.{rules}
use borrow.Author.Tests.{le-leb, lt-leb}
use Rattle.bits.specs.Digits.{value}
use Rattle.remainder.specs.Remainder.{divide, remainder_number}
use Rattle.bits.proofs.Digits.{digits-zero}
use Rattle.remainder.proofs.Register.{turn, ended, whole}
use Rattle.remainder.proofs.Generator.remainder_of.Goals as goal

pub returns-then-self-gt31 : goal.returns-then-self-gt31
unfolding remainder_number
returns-then-self-gt31 c = rw (lt-leb _ _ c.if-self-gt31.true)

pub loop-bit-init : goal.loop-bit-init
unfolding divide
loop-bit-init c = (search rules, pow_pos _, digits-zero _)

pub loop-bit-preserved : goal.loop-bit-preserved
loop-bit-preserved c =
    let bits = c.args.bits.now in
    let within : c.loop-bit.bit-index < length bits = search rules in
    (search rules, c.next-reg.ensures.0, turn _ _ _ _ _ _ _ c.loop-bit.invariant.2 within c.next-reg.ensures.1)

pub returns : goal.returns
unfolding remainder_number
returns c =
    rw (le-leb _ _ c.if-self-gt31.false)
    (ended _ _ _ _ _ _ c.loop-bit.invariant.1 (omega arith) c.loop-bit.invariant.2 ∙ ap (value 2) (whole _ _ _))
