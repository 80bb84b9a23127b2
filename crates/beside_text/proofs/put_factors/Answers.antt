-- `put_factors` meets its contract. Assumes nothing.
use borrow.Author.Rules.{rules}
use Rattle.bits.specs.Letters.{letters}
use Rattle.beside_text.specs.Lines.{factors_line}
use Rattle.beside_text.proofs.put_factors.Goals as goal

pub returns : goal.returns
unfolding factors_line letters
returns c = c.put_line.ensures _ (λ i p q l k. search rules)
