-- `put_hex` meets its contract. Assumes nothing.
use borrow.Author.Rules.{rules}
use Rattle.text_rows.specs.Rows.{hex_byte}
use Rattle.text_rows.proofs.put_hex.Goals as goal

pub returns : goal.returns
returns c = c.put_spelled.ensures hex_byte (λ x p q k. search rules)
