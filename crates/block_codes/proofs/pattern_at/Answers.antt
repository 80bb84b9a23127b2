-- `block_codes::pattern_at` meets its contract: the number that the bits so far make. Assumes nothing.
use mathlib.Core.Path.{◌≡◌, refl, sym, ap, ap₂, ◌∙◌}
use mathlib.Core.Bool.{true}
use mathlib.Core.List.{List}
use Prim.Native.Nat.{ℕ, ◌+◌, ◌*◌, ◌^◌, ◌<◌, ◌≤◌}
use native.Mathlib.Nat.{pow-suc}
use native.Mathlib.Numerals.{add-one}
use native.Mathlib.Omega.{arith}
use lib.ListN.{length, get_or, take}
use lib.Pow.{pow_mono}
use lib.Seq.{take_all}
use Rattle.bits.specs.Digits.{value}
use Rattle.bits.specs.Bits.{are_bits}
use Rattle.bits.proofs.Digits.{value-take, below-get_or}
use Rattle.bits.proofs.Bits.{bits_below}
use Rattle.block.specs.Layout.{fourteen, code_place}
use Rattle.block.proofs.Places.{length-fourteen, fourteen-at}
use borrow.Author.Rules.{rules}
use Rattle.block_codes.proofs.pattern_at.Goals as goal

pub loop-k-init : goal.loop-k-init
unfolding value
loop-k-init c = (search rules, search rules, refl)

pub overflow_mul-pattern : goal.overflow_mul-pattern
overflow_mul-pattern c =
    let room : 2 ^ c.loop-k.k ≤ 2 ^ 13 = pow_mono {j = 13} (omega arith) in let r = room in search rules

-- the bit taken is the next of the fourteen
module _ (bits : List ℕ) (size : length bits ≡ 77) (are : are_bits bits ≡ true) (channel k at : ℕ) (c : channel < 4) (l : k < 14) (place : at ≡ code_place channel k) (within : at < 77) where
  small : get_or bits at 0 < 2
  small = below-get_or 2 bits at (bits_below bits are) (omega (arith, size))

  next : (pattern : ℕ) → pattern ≡ value 2 (take k (fourteen bits channel)) → pattern * 2 + get_or bits at 0 ≡ value 2 (take (k + 1) (fourteen bits channel))
  next pattern e =
      let long = length-fourteen bits size channel c in
      ap₂ (λ (x y : ℕ). x * 2 + y) e (ap (λ (n : ℕ). get_or bits n 0) place ∙ fourteen-at bits size channel c k l)
      ∙ sym (value-take 2 (fourteen bits channel) k (omega arith))

pub overflow_add-pattern : goal.overflow_add-pattern
overflow_add-pattern c =
    let a = c.args in
    let size : length a.bits ≡ 77 = search rules in
    let s = small a.bits size c.requires.1 a.channel c.loop-k.k c.place_of-at.result c.requires.0 (omega arith) c.place_of-at.ensures.0 c.place_of-at.ensures.1 in
    let room : 2 ^ c.loop-k.k ≤ 2 ^ 13 = pow_mono {j = 13} (omega arith) in
    omega (arith, c.from.ensures)

pub loop-k-preserved : goal.loop-k-preserved
loop-k-preserved c =
    let a = c.args in
    let size : length a.bits ≡ 77 = search rules in
    let l : c.loop-k.k < 14 = omega arith in
    let s = small a.bits size c.requires.1 a.channel c.loop-k.k c.place_of-at.result c.requires.0 l c.place_of-at.ensures.0 c.place_of-at.ensures.1 in
    let n = next a.bits size c.requires.1 a.channel c.loop-k.k c.place_of-at.result c.requires.0 l c.place_of-at.ensures.0 c.place_of-at.ensures.1 c.loop-k.pattern c.loop-k.invariant.2 in
    let twice : 2 ^ (c.loop-k.k + 1) ≡ 2 ^ c.loop-k.k * 2 = rw add-one (pow-suc 2 c.loop-k.k) in
    (search rules, rw (c.from.ensures, twice) (omega arith), rw c.from.ensures n)

pub returns : goal.returns
returns c =
    let size : length c.args.bits ≡ 77 = search rules in
    let long = length-fourteen c.args.bits size c.args.channel (omega arith) in
    c.loop-k.invariant.2 ∙ ap (value 2) (take_all c.loop-k.k (fourteen c.args.bits c.args.channel) (omega arith))
