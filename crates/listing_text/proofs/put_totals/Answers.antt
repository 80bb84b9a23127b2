-- `put_totals` meets its contract. Assumes nothing.
use Rattle.bits.specs.Letters.{letters}
use Rattle.text.proofs.Pens.{puts_then}
use Rattle.listing_text.specs.Listing.{seven_lines}
use Rattle.listing_text.proofs.put_totals.Goals as goal

pub returns : goal.returns
unfolding seven_lines letters
returns c =
    puts_then c.put_line.ensures
    (puts_then c.put_line-2.ensures
    (puts_then c.put_line-3.ensures
    (puts_then c.put_line-4.ensures (puts_then c.put_line-5.ensures (puts_then c.put_line-6.ensures c.put_ending.ensures)))))
