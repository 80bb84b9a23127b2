-- `scale::bits_of` meets its contract. Assumes nothing.
use mathlib.Core.Path.{sym, ◌∙◌}
use lib.ListN.{get_or}
use Rattle.std.proofs.Common.{rules}
use Rattle.bits.specs.Digits.{digits}
use Rattle.bits.proofs.Digits.{length_digits, get_or-digits}
use Rattle.bits.proofs.Table.{tab-get_or}
use Rattle.bits.proofs.Made.{made}
use Rattle.scale.proofs.bits_of.Goals as goal

pub returns : goal.returns
returns c =
    let w = digits 2 14 c.args.word in
    made _ (λ i. get_or w i 0) _ 14 _ 0 c.from_fn.ensures.items (λ i y q h k. rw (get_or-digits 2 14 c.args.word i h) (search rules))
    ∙ sym (tab-get_or 14 w 0 (length_digits 2 14 c.args.word))
