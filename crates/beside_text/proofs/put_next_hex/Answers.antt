-- `put_next_hex` meets its contract. Assumes nothing.
use mathlib.Core.List.{[], ◌∷◌}
use Rattle.text.proofs.Pens.{puts_then}
use Rattle.beside_text.proofs.put_next_hex.Goals as goal

pub returns : goal.returns
returns c = puts_then {s = _ ∷ []} c.put.ensures c.put_hex.ensures
