-- `label::seconds::put_seconds` meets its contract. Assumes nothing.
use Rattle.bits.specs.Letters.{letters}
use Rattle.text.proofs.Pens.{puts_then}
use Rattle.label.specs.Seconds.{seconds}
use Rattle.label.proofs.seconds.put_seconds.Goals as goal

pub returns : goal.returns
unfolding seconds letters
returns c = puts_then c.put_text.ensures (puts_then c.put.ensures c.put_padded.ensures)
