-- `type_lines::put_type` meets its contract. Assumes nothing.
use mathlib.Core.Path.{ap}
use Rattle.bits.specs.Letters.{letters}
use Rattle.text.proofs.Pens.{puts_as, puts_then}
use Rattle.text_rows.specs.Turns.{next}
use Rattle.type_lines.specs.Types.{type_line}
use Rattle.type_lines.proofs.put_type.Goals as goal

pub returns : goal.returns
unfolding type_line letters
returns c =
    puts_then c.put_head.ensures
    (puts_then c.put_all.ensures
    (puts_then c.put_name.ensures
    (puts_then c.put_manner.ensures
    (puts_then c.put_all-2.ensures (puts_then (puts_as (ap next c.from.ensures) c.put_next.ensures) c.put.ensures)))))
