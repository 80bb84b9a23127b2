-- `put_information` meets its contract. Assumes nothing.
use Rattle.bits.specs.Letters.{letters}
use Rattle.beside_text.specs.Lines.{information_line}
use Rattle.beside_text.proofs.put_information.Goals as goal

pub returns-in-Ok : goal.returns-in-Ok
unfolding information_line
returns-in-Ok c = rw c.in-Ok.is c.put_words.ensures

pub returns-in-Err : goal.returns-in-Err
unfolding information_line letters
returns-in-Err c = rw c.in-Err.is c.put_all.ensures
