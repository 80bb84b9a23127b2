-- `put_line` meets its contract. Assumes nothing.
use Rattle.text.proofs.Pens.{puts_then}
use Rattle.beside_text.proofs.put_line.Goals as goal

pub returns : goal.returns
returns g c f puts = puts_then c.put_all.ensures (puts_then (c.put_turns.ensures f puts) c.put.ensures)
