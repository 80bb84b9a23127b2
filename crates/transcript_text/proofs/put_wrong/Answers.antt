-- `put_wrong` meets its contract. Assumes nothing.
use mathlib.Core.Path.{ap}
use Rattle.bits.specs.Letters.{letters}
use Rattle.text.proofs.Pens.{puts_as, puts_then}
use Rattle.text_rows.specs.Turns.{next}
use Rattle.transcript_text.specs.Superframe.{sync_line}
use Rattle.transcript_text.proofs.put_wrong.Goals as goal

pub returns : goal.returns
unfolding sync_line letters
returns c = puts_then c.put_all.ensures (puts_then (puts_as (ap next c.from.ensures) c.put_next.ensures) c.put.ensures)
