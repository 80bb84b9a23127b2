-- `Pen::put_next` meets its contract. Assumes nothing.
use mathlib.Core.List.{[], ◌∷◌}
use Rattle.text.proofs.Pens.{puts_then}
use Rattle.text.proofs.pen.Pen.put_next.Goals as goal

pub returns : goal.returns
returns g c = puts_then {s = _ ∷ []} c.put.ensures c.put_text.ensures
