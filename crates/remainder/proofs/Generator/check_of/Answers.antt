-- `remainder::Generator::check_of` meets its contract. The loop's invariant: the word's remainder is divided on, with a zero for each turn. Assumes nothing.
use mathlib.Core.Path.{◌≡◌, refl, ap, ◌∙◌}
use Prim.Native.Nat.{◌<◌}
use lib.ListN.{length, get_or, get_or-replicate}
use borrow.Author.Rules.{rules}
use borrow.Author.Tests.{le-leb, lt-leb}
use Rattle.bits.specs.Digits.{value}
use Rattle.remainder.specs.Polynomial.{zeros}
use Rattle.remainder.specs.Remainder.{divide, check_number}
use Rattle.remainder.proofs.Sum.{length-zeros}
use Rattle.remainder.proofs.Register.{turn, ended, resumed, behind, small-remainder, remainder-number}
use Rattle.remainder.proofs.Generator.check_of.Goals as goal

pub returns-then-self-gt31 : goal.returns-then-self-gt31
unfolding check_number
returns-then-self-gt31 c = rw (lt-leb _ _ c.if-self-gt31.true)

pub loop-i-init : goal.loop-i-init
unfolding divide
loop-i-init c =
    let args = c.args in
    let w = args.bits.now in
    let made = c.remainder_of-reg.ensures ∙ remainder-number args.self.degree args.self.coefficients _ c.if-self-gt31.false refl w in
    (search rules, rw made (small-remainder args.self.degree args.self.coefficients w), rw made (resumed args.self.degree args.self.coefficients w))

pub loop-i-preserved : goal.loop-i-preserved
loop-i-preserved c =
    let n = c.args.self.degree in
    let within : c.loop-i.i < length (zeros n) = rw (length-zeros n) (search rules) in
    let zero-next : get_or (zeros n) c.loop-i.i 0 ≡ 0 = get_or-replicate n c.loop-i.i 0 0 c.loop-i-test.true in
    (search rules, c.next-reg.ensures.0, turn _ _ _ _ _ _ _ c.loop-i.invariant.2 within (rw zero-next c.next-reg.ensures.1))

pub returns : goal.returns
unfolding check_number
returns c =
    let n = c.args.self.degree in
    rw (le-leb _ _ c.if-self-gt31.false)
    (ended _ _ _ (zeros n) _ c.loop-i.i c.loop-i.invariant.1 (rw (length-zeros n) c.loop-i-test.false) c.loop-i.invariant.2 ∙ ap (value 2) (behind _ _ _))
