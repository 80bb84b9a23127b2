-- `block_writer::bits_of` meets its contract. Assumes nothing.
use mathlib.Core.Path.{◌≡◌, sym, ◌∙◌}
use native.Mathlib.Omega.{arith}
use lib.ListN.{length, get_or}
use Rattle.bits.proofs.Made.{made}
use Rattle.bits.proofs.Table.{tab-get_or}
use Rattle.block.specs.Layout.{block_with}
use Rattle.block.proofs.Places.{length-block}
use borrow.Author.Rules.{rules}
use Rattle.block_writer.proofs.bits_of.Goals as goal

pub returns : goal.returns
returns c =
    let a = c.args in
    let four : length a.codes ≡ 4 = search rules in
    let two : length a.extra ≡ 2 = search rules in
    made _ (λ j. get_or (block_with a.codes a.extra) j 0) _ 77 _ 0 c.from_fn.ensures.items (λ j y q h k. search rules)
    ∙ sym (tab-get_or 77 (block_with a.codes a.extra) 0 (length-block a.codes a.extra four ∙ omega arith))
