-- `put_lines` meets its contract. Assumes nothing.
use mathlib.Core.Path.{sym, ap, ◌∙◌}
use Rattle.bits.specs.Letters.{letters}
use Rattle.text.proofs.Pens.{puts_as}
use Rattle.listing_text.specs.Listing.{line}
use Rattle.totals_text.specs.Totals.{totals_text}
use Rattle.totals_text.proofs.Fits.{refused-totals}
use Rattle.totals_text.proofs.put_lines.Goals as goal

pub returns-in-Ok : goal.returns-in-Ok
unfolding totals_text
returns-in-Ok c = rw c.in-Ok.is c.put_all.ensures

pub returns-in-Err : goal.returns-in-Err
unfolding letters
returns-in-Err c =
    rw c.in-Err.is
    (puts_as (ap (line (letters "refused")) (c.from.ensures ∙ c.number.ensures) ∙ sym (refused-totals c.in-Err.refusal c.args.totals)) c.put_line.ensures)
