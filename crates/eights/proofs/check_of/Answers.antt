-- `eights::check_of` meets its contract. Assumes nothing.
use mathlib.Core.Path.{ap, ◌∙◌}
use Prim.Native.Nat.{ℕ, ◌*◌, ◌^◌}
use Rattle.eights.specs.Eights.{word_by, check_by}
use Rattle.eights.proofs.check_of.Goals as goal

pub returns : goal.returns
unfolding check_by
returns c =
    c.of_word.ensures ∙ ap (λ (n : ℕ). word_by c.args.table.now (n * 2 ^ 19)) (c.from.ensures ∙ c.of_bits.ensures)
