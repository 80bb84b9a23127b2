-- `eights::of_bits` meets its contract. The loop's invariant: the first bits, and eight for each turn, are divided. Assumes nothing.
use mathlib.Core.Path.{◌≡◌, sym, ap, ap₂, ◌∙◌}
use Prim.Native.Nat.{ℕ, ◌-◌, ◌/◌, ◌%◌, ◌^◌}
use native.Mathlib.Numerals.{add-one}
use lib.ListN.{length}
use borrow.Author.Rules.{rules}
use Rattle.eights.specs.Eights.{step_by, rows, row_by}
use Rattle.eights.proofs.of_bits.Goals as goal

pub loop-i-init : goal.loop-i-init
unfolding rows
loop-i-init c =
    (search rules, ap (λ (b : ℕ). b / 2 ^ (8 - length c.args.bits.now % 8)) (c.from.ensures ∙ c.byte_from.ensures))

pub loop-i-preserved : goal.loop-i-preserved
unfolding rows
loop-i-preserved c =
    let t = c.args.table.now in
    let bits = c.args.bits.now in (
      search rules,
      c.next-reg.ensures ∙ ap₂ (step_by 11 t) c.loop-i.invariant.1 c.byte_from-in-loop-i.ensures ∙ ap (rows 11 t bits) (sym (add-one c.loop-i.i)),
    )

pub returns : goal.returns
unfolding row_by
returns c =
    let bits = c.args.bits.now in
    let all : c.loop-i.i ≡ length bits / 8 = search rules in
    c.loop-i.invariant.1 ∙ ap (rows 11 _ bits) all
