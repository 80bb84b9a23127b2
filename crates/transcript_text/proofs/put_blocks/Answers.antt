-- `put_blocks` meets its contract. Assumes nothing.
use mathlib.Core.Path.{ap}
use Rattle.bits.specs.Letters.{letters}
use Rattle.text.proofs.Pens.{puts_as, puts_then}
use Rattle.text_rows.specs.Turns.{next}
use Rattle.transcript_text.specs.Superframe.{blocks_line}
use Rattle.transcript_text.proofs.put_blocks.Goals as goal

pub returns : goal.returns
unfolding blocks_line letters
returns c =
    puts_then c.put_all.ensures
    (puts_then (puts_as (ap next c.sum.ensures) c.put_next.ensures)
    (puts_then (puts_as (ap next c.sum-2.ensures) c.put_next-2.ensures)
    (puts_then (puts_as (ap next c.sum-3.ensures) c.put_next-3.ensures) c.put.ensures)))
