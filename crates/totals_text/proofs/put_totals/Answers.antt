-- `put_totals` meets its contract. Assumes nothing.
use borrow.Author.Rules.{rules}
use Rattle.totals_text.proofs.put_totals.Goals as goal

pub returns : goal.returns
returns c = c.put_whole.ensures _ (λ p q k. search rules)
