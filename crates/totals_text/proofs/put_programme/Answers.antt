-- `put_programme` meets its contract. Assumes nothing.
use mathlib.Core.Path.{ap}
use Rattle.bits.specs.Letters.{letters}
use Rattle.text.proofs.Pens.{puts_as, puts_then}
use Rattle.text_rows.specs.Turns.{next}
use Rattle.listing_text.specs.Listing.{line}
use Rattle.totals_text.specs.Totals.{counts_line}
use Rattle.totals_text.proofs.put_programme.Goals as goal

pub returns : goal.returns
unfolding counts_line letters
returns c =
    puts_then c.put_all.ensures
    (puts_then c.put_next.ensures
    (puts_then c.put_all-2.ensures
    (puts_then (puts_as (ap next c.from.ensures) c.put_next-2.ensures)
    (puts_then c.put_all-3.ensures
    (puts_then (puts_as (ap next c.from-2.ensures) c.put_next-3.ensures)
    (puts_as (ap (line (letters " bad")) c.from-3.ensures) c.put_line.ensures))))))
