-- `bits::byte_from` meets its contract: the sum is the number that the bits so far make. Assumes nothing.
use mathlib.Core.Path.{◌≡◌, refl, sym, ap₂, ◌∙◌}
use Prim.Native.Nat.{ℕ, ◌+◌, ◌*◌, ◌%◌, ◌^◌, ◌≤◌}
use native.Mathlib.Nat.{pow-suc}
use native.Mathlib.Numerals.{add-one}
use native.Mathlib.Omega.{arith}
use lib.ListN.{get_or}
use lib.Pow.{pow_mono}
use Rattle.bits.specs.Table.{tabulate}
use Rattle.bits.specs.Digits.{value}
use Rattle.bits.specs.Bits.{byte_at, eight_at}
use Rattle.bits.proofs.Digits.{value-tab}
use borrow.Author.Rules.{rules}
use Rattle.bits.proofs.byte_from.Goals as goal

pub loop-j-init : goal.loop-j-init
unfolding value tabulate
loop-j-init c = (search rules, search rules, refl)

pub overflow_mul-sum : goal.overflow_mul-sum
overflow_mul-sum c = let room : 2 ^ c.loop-j.j ≤ 2 ^ 7 = pow_mono {j = 7} (omega arith) in search rules

pub overflow_add-sum : goal.overflow_add-sum
overflow_add-sum c = let room : 2 ^ c.loop-j.j ≤ 2 ^ 7 = pow_mono {j = 7} (omega arith) in search rules

pub loop-j-preserved : goal.loop-j-preserved
loop-j-preserved c =
    let f : ℕ → ℕ = λ j. get_or c.args.bits.now (c.args.at + j) 0 % 2 in
    let twice : 2 ^ (c.loop-j.j + 1) ≡ 2 ^ c.loop-j.j * 2 = rw add-one (pow-suc 2 c.loop-j.j) in
    let bit : c.bit_behind.result ≡ f c.loop-j.j = c.bit_behind.ensures in (
      search rules,
      rw twice (omega arith),
      ap₂ (λ (x y : ℕ). x * 2 + y) c.loop-j.invariant.2 bit ∙ sym (value-tab 2 c.loop-j.j f),
    )

pub returns : goal.returns
unfolding byte_at eight_at
returns c =
    let end : c.loop-j.j ≡ 8 = omega arith in
    rw end at c.loop-j.invariant.2
