-- `put_byte` meets its contract. Assumes nothing.
use mathlib.Core.Path.{ap₂}
use mathlib.Core.List.{[], ◌∷◌}
use Prim.Native.Nat.{ℕ}
use Rattle.text.proofs.Pens.{puts_as, puts_then}
use Rattle.text_rows.proofs.put_byte.Goals as goal

pub returns : goal.returns
returns c = puts_as (ap₂ (λ (a b : ℕ). a ∷ b ∷ []) c.hex_digit.ensures c.hex_digit-2.ensures) (puts_then {s = _ ∷ []} c.put.ensures c.put-2.ensures)
