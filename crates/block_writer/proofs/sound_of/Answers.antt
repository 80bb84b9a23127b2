-- `block_writer::sound_of` meets its contract. Assumes nothing.
use mathlib.Core.Path.{◌≡◌, sym, ◌∙◌}
use native.Mathlib.Omega.{arith}
use lib.ListN.{length, get_or}
use Rattle.bits.proofs.Made.{made}
use Rattle.bits.proofs.Table.{tab-get_or}
use Rattle.block.specs.Layout.{sound}
use Rattle.block.proofs.Places.{length-sound}
use borrow.Author.Rules.{rules}
use Rattle.block_writer.proofs.sound_of.Goals as goal

pub returns : goal.returns
returns c =
    let codes = c.args.codes in
    let four : length codes ≡ 4 = search rules in
    made _ (λ j. get_or (sound codes) j 0) _ 44 _ 0 c.from_fn.ensures.items (λ j y q h k. search rules)
    ∙ sym (tab-get_or 44 (sound codes) 0 (length-sound codes ∙ omega arith))
