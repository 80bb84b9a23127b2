-- `nearest::read` meets its contract. Assumes nothing.
use mathlib.Core.Path.{◌≡◌, sym, ap, ◌∙◌}
use mathlib.Core.Bool.{true}
use mathlib.Core.List.{List}
use Prim.Native.Nat.{ℕ}
use native.Mathlib.Omega.{arith}
use lib.ListN.{length}
use lib.Seq.{take_all}
use Rattle.bits.specs.Bits.{are_bits}
use Rattle.nearest.specs.Reading.{read_scale, scale_answer, factors_told}
use Rattle.nearest.proofs.Numbers.{all_from}
use Rattle.nearest.proofs.Search.{told_or}
use borrow.Author.Rules.{rules}
use Rattle.nearest.proofs.read.Goals as goal

pub returns-then-not-are_bits : goal.returns-then-not-are_bits
unfolding scale_answer
returns-then-not-are_bits c = rw (sym c.are_bits.ensures ∙ c.if-not-are_bits.true)

pub returns : goal.returns
unfolding scale_answer
returns c =
    let given : List ℕ = c.args.bits in
    let all : are_bits given ≡ true = sym c.are_bits.ensures ∙ c.if-not-are_bits.false in
    let sized : length given ≡ 42 = search rules in
    rw all
    (ap factors_told c.ok_or.ensures.value
    ∙ told_or c.factors_of.result
    ∙ c.factors_of.ensures
    ∙ c.nearest_in.ensures ∙ ap read_scale (all_from given 0 42 all (omega arith) ∙ take_all 42 given (omega arith)))
