-- `nearest::read_extra` meets its contract. Assumes nothing.
use mathlib.Core.Path.{◌≡◌, sym, ap, ap₂, ◌∙◌}
use mathlib.Core.Bool.{true}
use mathlib.Core.List.{List}
use Prim.Native.Nat.{ℕ, ◌^◌, ◌<◌}
use native.Mathlib.Omega.{arith}
use lib.ListN.{length, take}
use Rattle.bits.specs.Bits.{are_bits}
use Rattle.nearest.specs.Reading.{read_scale}
use Rattle.nearest.specs.Extra.{factors_in, extra_answer}
use Rattle.nearest.specs.declared.Factors.{Factors}
use Rattle.std.specs.declared.option.Option.{Option}
use Rattle.std.specs.declared.result.Result.TheVariants.{Ok}
use Rattle.nearest.proofs.Numbers.{number_small, all_from}
use Rattle.nearest.proofs.ExtraBits.{information-number}
use Rattle.nearest.proofs.Search.{factors-told}
use borrow.Author.Rules.{rules}
use Rattle.nearest.proofs.read_extra.Goals as goal

pub returns-then-not-are_bits : goal.returns-then-not-are_bits
unfolding extra_answer
returns-then-not-are_bits c = rw (sym c.are_bits.ensures ∙ c.if-not-are_bits.true)

pub overflow_cast-word : goal.overflow_cast-word
overflow_cast-word c =
    let h : c.number_from-word.result < 2 ^ 22 = rw c.number_from-word.ensures (number_small _ 42 22) in
    search rules

pub returns : goal.returns
unfolding extra_answer
returns c =
    let given : List ℕ = c.args.bits in
    let all : are_bits given ≡ true = sym c.are_bits.ensures ∙ c.if-not-are_bits.false in
    let sized : length given ≡ 64 = search rules in
    let factors : c.factors_of-factors.result ≡ factors_in (read_scale (take 42 given)) =
    sym (factors-told c.factors_of-factors.result)
    ∙ ap factors_in (c.factors_of-factors.ensures ∙ c.nearest_in.ensures ∙ ap read_scale (all_from given 0 42 all (omega arith))) in
    rw all
    (ap₂ (λ (w : ℕ) (f : Option Factors). Ok (record { factors = f; word = w }))
    (c.number_from-word.ensures ∙ information-number given sized all) factors)
