-- `ending::put_file` meets its contract. Assumes nothing.
use Rattle.bits.specs.Letters.{letters}
use Rattle.text.proofs.Pens.{puts_then}
use Rattle.ending.specs.Word.{file_line}
use Rattle.ending.proofs.put_file.Goals as goal

pub returns : goal.returns
unfolding file_line letters
returns c =
    puts_then c.put_all.ensures
    (puts_then c.put_next.ensures (puts_then c.put.ensures (puts_then c.put_all-2.ensures c.put-2.ensures)))
