-- `put_service` meets its contract. Assumes nothing.
use mathlib.Core.Path.{ap}
use Rattle.bits.specs.Letters.{letters}
use Rattle.text.proofs.Pens.{puts_as, puts_then}
use Rattle.text_rows.specs.Turns.{next}
use Rattle.beside_text.specs.Lines.{service_line}
use Rattle.beside_text.proofs.put_service.Goals as goal

pub returns : goal.returns
unfolding service_line letters
returns c =
    puts_then c.put_all.ensures
    (puts_then (puts_as (ap next c.from.ensures) c.put_next.ensures)
    (puts_then (puts_as (ap next c.from-2.ensures) c.put_next-2.ensures) (puts_then c.put_next_hex.ensures c.put.ensures)))
