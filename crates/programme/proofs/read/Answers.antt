-- `programme::read` meets its contract. Assumes nothing.
use mathlib.Core.Path.{◌≡◌}
use Prim.Native.Nat.{ℕ, ◌/◌, ◌%◌}
use native.Mathlib.Omega.{arith}
use borrow.Author.Tests.{eq-eqb, ne_eqb}
use Rattle.bits.specs.Bits.{ones}
use Rattle.bits.proofs.Ones.{count-digits}
use Rattle.programme.specs.Byte.{eight, read_byte, even}
use Rattle.programme.proofs.Byte.{kind-is, music-is, mode-is}
use Rattle.programme.proofs.read.Goals as goal

pub returns-then-byte-ne0 : goal.returns-then-byte-ne0
unfolding read_byte even
returns-then-byte-ne0 c =
    let counted = count-digits 8 c.args.byte (omega arith) in
    rw (ne_eqb (ones (eight c.args.byte) % 2) 0 (rw counted at c.if-byte-ne0.true))

pub returns : goal.returns
unfolding read_byte even
returns c =
    let b : ℕ = c.args.byte in
    let counted = count-digits 8 b (omega arith) in
    let k : b / 16 ≡ b / 16 % 16 = omega arith in
    rw (eq-eqb (ones (eight b) % 2) 0 (rw counted at c.if-byte-ne0.false), kind-is b, music-is b, mode-is b, ← k)
