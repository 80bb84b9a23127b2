-- `name_lines::put_label` meets its contract. Assumes nothing.
use borrow.Author.Rules.{rules}
use Rattle.bits.specs.Letters.{letters}
use Rattle.text.proofs.Pens.{puts_then}
use Rattle.name_lines.specs.Names.{quoted, label_line}
use Rattle.name_lines.proofs.put_label.Goals as goal

pub returns : goal.returns
unfolding label_line letters
returns c =
    puts_then c.put_head.ensures
    (puts_then c.put_all.ensures
    (puts_then (c.put_spelled.ensures quoted (λ x p q post. search rules)) c.put_all-2.ensures))
