-- `ending::put_error` meets its contract. Assumes nothing.
use Rattle.text.proofs.Pens.{puts_then}
use Rattle.ending.specs.Word.{error_line}
use Rattle.ending.proofs.put_error.Goals as goal

pub returns : goal.returns
unfolding error_line
returns c = puts_then c.put_all.ensures (puts_then c.put_next.ensures c.put.ensures)
