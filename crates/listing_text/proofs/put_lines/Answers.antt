-- `put_lines` meets its contract. Assumes nothing.
use mathlib.Core.Path.{sym, ap, ◌∙◌}
use Rattle.bits.specs.Letters.{letters}
use Rattle.text.proofs.Pens.{puts_as}
use Rattle.listing_text.specs.Listing.{line, listing}
use Rattle.listing_text.proofs.Text.{refused-listing}
use Rattle.listing_text.proofs.put_lines.Goals as goal

pub returns-in-Ok : goal.returns-in-Ok
unfolding listing
returns-in-Ok c = rw c.in-Ok.is c.put_totals.ensures

pub returns-in-Err : goal.returns-in-Err
unfolding letters
returns-in-Err c =
    rw c.in-Err.is
    (puts_as (ap (line (letters "refused")) (c.from.ensures ∙ c.number.ensures) ∙ sym (refused-listing c.in-Err.refusal c.args.totals)) c.put_line.ensures)
