-- `put_words` meets its contract. Assumes nothing.
use borrow.Author.Rules.{rules}
use Rattle.bits.specs.Letters.{letters}
use Rattle.beside_text.specs.Lines.{words_line}
use Rattle.beside_text.proofs.put_words.Goals as goal

pub returns : goal.returns
unfolding words_line letters
returns c = c.put_line.ensures _ (λ i p q l k. search rules)
