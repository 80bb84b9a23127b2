-- `put_line` meets its contract. Assumes nothing.
use Rattle.text.proofs.Pens.{puts_then}
use Rattle.listing_text.specs.Listing.{line}
use Rattle.listing_text.proofs.put_line.Goals as goal

pub returns : goal.returns
unfolding line
returns c = puts_then c.put_all.ensures (puts_then c.put_next.ensures c.put.ensures)
