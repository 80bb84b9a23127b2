-- `sample::factor_for` meets its contract: the search goes down from 7, and passes only factors that the reach does not fit. Assumes nothing.
use mathlib.Core.Path.{◌≡◌, sym, ◌∙◌}
use Prim.Native.Nat.{◌-◌, ◌/◌, ◌^◌, ◌<◌, ◌≤◌}
use native.Mathlib.Omega.{arith}
use borrow.Author.Tests.{lt-ltb, le-ltb}
use Rattle.sample.specs.Factor.{largest}
use Rattle.sample.proofs.Sample.{half_over}
use Rattle.sample.proofs.Factor.{largest-hit, largest-miss}
use Rattle.sample.proofs.factor_for.Goals as goal
use Rattle.sample.proofs.factor_for.Invariants.{fitting}

pub returns-then-most-s : goal.returns-then-most-s
returns-then-most-s c =
    let s = c.loop-s.s - 1 in
    let most = c.args.most in
    let half : 32768 / 2 ^ s ≡ 2 ^ (15 - s) = half_over s (omega arith) in
    let near : most < 2 ^ (15 - s) = omega arith in
    sym (c.loop-s.invariant ∙ largest-hit (fitting most) s (lt-ltb most (2 ^ (15 - s)) near))

pub loop-s-preserved : goal.loop-s-preserved
loop-s-preserved c =
    let s = c.loop-s.s - 1 in
    let most = c.args.most in
    let half : 32768 / 2 ^ s ≡ 2 ^ (15 - s) = half_over s (omega arith) in
    let far : 2 ^ (15 - s) ≤ most = omega arith in
    c.loop-s.invariant ∙ largest-miss (fitting most) s (omega arith) (le-ltb most (2 ^ (15 - s)) far)

pub returns : goal.returns
unfolding largest
returns c =
    let none : c.loop-s.s - 1 ≡ 0 = omega arith in
    sym (rw none at c.loop-s.invariant)
