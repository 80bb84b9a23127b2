-- `put_labels` meets its contract. Assumes nothing.
use borrow.Author.Rules.{rules}
use Rattle.bits.specs.Letters.{letters}
use Rattle.beside_text.specs.Lines.{labels_line}
use Rattle.beside_text.proofs.put_labels.Goals as goal

pub returns-in-Some : goal.returns-in-Some
unfolding labels_line letters
returns-in-Some c = rw c.in-Some.is (c.put_line.ensures _ (λ i p q l k. search rules))

pub returns-in-None : goal.returns-in-None
unfolding labels_line letters
returns-in-None c = rw c.in-None.is c.put_all.ensures
