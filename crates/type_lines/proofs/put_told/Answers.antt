-- `type_lines::put_told` meets its contract. Assumes nothing.
use Rattle.text.proofs.Pens.{puts_none}
use Rattle.type_lines.specs.Types.{type_text}
use Rattle.type_lines.proofs.put_told.Goals as goal

pub returns-then-told : goal.returns-then-told
unfolding type_text
returns-then-told c = rw c.if-told.true c.put_bytes.ensures

pub returns-else-told : goal.returns-else-told
unfolding type_text
returns-else-told c = rw c.if-told.false (puts_none _)
