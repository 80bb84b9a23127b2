-- `put_pair` meets its contract. Assumes nothing.
use mathlib.Core.List.{[], ◌∷◌}
use borrow.Author.Tests.{eq-eqb, ne_eqb}
use Rattle.bits.specs.Letters.{letters}
use Rattle.text.proofs.Pens.{puts_then}
use Rattle.beside_text.specs.Lines.{pair_text}
use Rattle.beside_text.proofs.put_pair.Goals as goal

pub returns-then-number-eq0 : goal.returns-then-number-eq0
unfolding pair_text letters
returns-then-number-eq0 c = rw (eq-eqb _ _ c.if-number-eq0.true) (puts_then {s = _ ∷ []} c.put.ensures c.put_row.ensures)

pub returns-else-number-eq0 : goal.returns-else-number-eq0
unfolding pair_text letters
returns-else-number-eq0 c = rw (ne_eqb _ _ c.if-number-eq0.false) (puts_then {s = _ ∷ []} c.put.ensures c.put_all.ensures)
