-- `put_listing` meets its contract. Assumes nothing.
use borrow.Author.Rules.{rules}
use Rattle.listing_text.proofs.put_listing.Goals as goal

pub returns : goal.returns
returns c = c.put_whole.ensures _ (λ p q k. search rules)
