-- `words::turned` meets its contract. Assumes nothing.
use mathlib.Core.Path.{ap, ◌∙◌}
use Prim.Native.Nat.{ℕ, ◌-◌, ◌%◌, ◌^◌}
use native.Mathlib.Nat.{one-mul, mod-eq_of_lt}
use native.Mathlib.Omega.{arith}
use lib.Bits.{bit_xor}
use lib.Pow.{pow-lt}
use borrow.Author.Tests.{lt-ltb, le-ltb}
use Rattle.words.specs.Words.{turned_at}
use Rattle.words.proofs.turned.Goals as goal

pub returns-then-place-lt63 : goal.returns-then-place-lt63
unfolding turned_at
returns-then-place-lt63 c =
    let p = c.args.place in
    rw (lt-ltb _ _ c.if-place-lt63.true)
    (ap (bit_xor c.args.word) (ap (λ (n : ℕ). n % 2 ^ 64) (one-mul (2 ^ (62 - p))) ∙ mod-eq_of_lt (pow-lt {i = 62 - p} {j = 64} (omega arith))))
