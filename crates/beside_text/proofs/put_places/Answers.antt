-- `put_places` meets its contract. Assumes nothing.
use mathlib.Core.Path.{ap}
use borrow.Author.Tests.{eq-eqb, ne_eqb}
use Rattle.bits.specs.Letters.{letters}
use Rattle.text.proofs.Pens.{puts_as}
use Rattle.text_rows.specs.Turns.{next}
use Rattle.beside_text.specs.Lines.{places_text}
use Rattle.beside_text.proofs.put_places.Goals as goal

pub returns-then-number-eq0 : goal.returns-then-number-eq0
unfolding places_text
returns-then-number-eq0 c = rw (eq-eqb _ _ c.if-number-eq0.true) (puts_as (ap next c.from.ensures) c.put_next.ensures)

pub returns-else-number-eq0 : goal.returns-else-number-eq0
unfolding places_text letters
returns-else-number-eq0 c = rw (ne_eqb _ _ c.if-number-eq0.false) c.put_all.ensures
