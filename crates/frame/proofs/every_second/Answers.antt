-- `frame::every_second` meets its contract: four bits more in each turn. Assumes nothing.
use mathlib.Core.Path.{◌≡◌, refl, ap, ◌∙◌}
use Prim.Native.Nat.{ℕ, ◌+◌, ◌-◌, ◌*◌, ◌/◌, ◌%◌, ◌^◌, ◌<◌}
use native.Mathlib.Omega.{arith}
use lib.ListN.{set, length-set}
use borrow.Author.Rules.{rules}
use Rattle.bits.specs.Table.{tabulate}
use Rattle.bits.specs.Bits.{bit_at}
use Rattle.bits.proofs.Table.{tab-more, tab-done}
use Rattle.frame.proofs.Window.{four-more}
use Rattle.frame.proofs.every_second.Goals as goal

pub loop-g-init : goal.loop-g-init
unfolding tabulate
loop-g-init c = (search rules, search rules, refl)

pub loop-g-preserved : goal.loop-g-preserved
loop-g-preserved c =
    let bytes = c.args.bytes.now in
    let start = c.args.start in
    let g = c.loop-g.g in
    let more : 4 * g + 4 ≡ 4 * (g + 1) = omega arith in
    let bit : (q k : ℕ) → q < 8 → 8 * (start / 8 + g) + start % 8 + q ≡ start + 2 * k → c.eight_from-eight.result / 2 ^ (7 - q) % 2 ≡ bit_at bytes (start + 2 * k) =
    λ q k l e. c.eight_from-eight.ensures q l ∙ ap (bit_at bytes) e in (
      search rules,
      search rules,
      rw more at
          (four-more (λ j. bit_at bytes (start + 2 * j)) c.loop-g.out (4 * g) _ _ _ _ (omega arith) c.loop-g.invariant.2
          (bit 0 (4 * g) (omega arith) (omega arith)) (bit 2 (4 * g + 1) (omega arith) (omega arith))
          (bit 4 (4 * g + 2) (omega arith) (omega arith)) (bit 6 (4 * g + 3) (omega arith) (omega arith))),
    )

pub returns : goal.returns
returns c =
    let bytes = c.args.bytes.now in
    let start = c.args.start in
    let out = c.loop-g.out in
    let last : 4 * c.loop-g.g ≡ 76 = omega arith in
    let v = c.bit_of.result in
    tab-done (λ j. bit_at bytes (start + 2 * j)) (set out 76 v) 77 77 (omega (arith, length-set out 76 v)) (omega arith) (omega arith)
    (tab-more (λ j. bit_at bytes (start + 2 * j)) out 76 v (omega arith) (rw last at c.loop-g.invariant.2) c.bit_of.ensures)
