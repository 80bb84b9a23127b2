-- `code::block_remainder` meets its contract: the division by the block's own table. Assumes nothing.
use mathlib.Core.Path.{ap, ◌∙◌}
use mathlib.Core.List.{List}
use Prim.Native.Nat.{ℕ}
use Rattle.eights.specs.Eights.{row_by}
use Rattle.eights.proofs.Whole.{row-remainder}
use Rattle.code.specs.Generators.{block_generator}
use Rattle.code.proofs.Smallest.{block_size}
use Rattle.code.proofs.block_remainder.Goals as goal

pub returns : goal.returns
returns c =
    let bits = c.args.bits.now in
    c.of_bits.ensures ∙ ap (λ (t : List ℕ). row_by t bits) c.remainders.ensures ∙ row-remainder block_generator block_size bits
