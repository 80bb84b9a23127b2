-- A number meets its contract: the fewest digits are the number in decimal. Assumes nothing.
use mathlib.Core.Path.{◌∙◌}
use Rattle.text.proofs.Decimal.{fewest-decimal}
use Rattle.text.proofs.Pens.{puts_as}
use Rattle.text.proofs.words.U64Text.put_on.Goals as goal

pub returns : goal.returns
returns c =
    let given = c.decimal-k in
    puts_as (given.ensures.digits ∙ fewest-decimal _ _ given.ensures.len) c.put_all.ensures
