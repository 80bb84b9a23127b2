-- `type_lines::after` meets its contract. Assumes nothing.
use mathlib.Core.Path.{refl, ap}
use mathlib.Core.List.{List}
use Prim.Native.Nat.{ℕ}
use borrow.Author.Tests.{eq-eqb, ne_eqb}
use Rattle.type_lines.specs.Types.{types_after}
use Rattle.type_lines.proofs.after.Goals as goal

pub returns-then-position-ne8 : goal.returns-then-position-ne8
unfolding types_after
returns-then-position-ne8 c = rw (ne_eqb _ _ c.if-position-ne8.true) refl

pub returns-then-told : goal.returns-then-told
unfolding types_after
returns-then-told c =
    let start = c.args in
    rw (eq-eqb _ _ c.if-position-ne8.false, c.if-told.true)
    (ap (λ (b : List ℕ). record { bytes = b; group = start.group; superframe = start.k }) c.noted_bytes-bytes.ensures)

pub returns-else-told : goal.returns-else-told
unfolding types_after
returns-else-told c = rw (eq-eqb _ _ c.if-position-ne8.false, c.if-told.false) refl
