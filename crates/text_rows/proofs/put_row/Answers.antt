-- `put_row` meets its contract. Assumes nothing.
use borrow.Author.Rules.{rules}
use Rattle.text_rows.proofs.put_row.Goals as goal

pub returns : goal.returns
returns c = c.put_spelled.ensures _ (λ x p q k. search rules)
