-- `remainder::Generator::next` meets its contract: `step-digits` at the degree. Assumes nothing.
use mathlib.Core.Path.{◌∙◌}
use Prim.Native.Nat.{◌+◌, ◌*◌, ◌/◌, ◌%◌, ◌^◌}
use native.Mathlib.Nat.{mod-lt, mul-le-mul_right}
use native.Mathlib.Omega.{arith}
use lib.Pow.{pow_pos, pow_mono}
use lib.Bits.{bit_xor}
use Rattle.bits.specs.Digits.{digits}
use Rattle.remainder.proofs.Register.{step-digits, step-odd, top, size}
use Rattle.remainder.proofs.Generator.next.Goals as goal

pub overflow_mul-w : goal.overflow_mul-w
overflow_mul-w c = omega (arith, pow_mono c.requires.0)

pub overflow_add-w : goal.overflow_add-w
overflow_add-w c = omega (arith, pow_mono c.requires.0)

pub overflow_mul-result : goal.overflow_mul-result
overflow_mul-result c =
    record { fits = rw c.from.ensures (omega (arith, mul-le-mul_right c.args.self.coefficients (top c.args.self.degree c.args.reg (c.args.bit % 2) c.requires.1 (omega arith)))) }

pub nonzero_rem-result : goal.nonzero_rem-result
nonzero_rem-result c = omega (arith, size c.args.self.degree c.requires.0, pow_pos c.args.self.degree)

pub returns : goal.returns
returns c =
    let n = c.args.self.degree in
    let g = c.args.self.coefficients in
    let reg = c.args.reg in
    let bit = c.args.bit in
    let w = reg * 2 + bit % 2 in
    rw (c.from.ensures, size n c.requires.0) (
      mod-lt (bit_xor w (w / 2 ^ n * g)) (pow_pos n),
      step-digits n reg (bit % 2) c.requires.1 (omega arith) g ∙ step-odd (digits 2 n g) (digits 2 n reg) bit,
    )
