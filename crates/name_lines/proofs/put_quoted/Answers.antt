-- `name_lines::put_quoted` meets its contract. Assumes nothing.
use mathlib.Core.Path.{sym, ◌∙◌}
use mathlib.Core.List.{[], ◌∷◌}
use Rattle.text.proofs.Pens.{puts_then}
use Rattle.text_rows.specs.Rows.{spelled}
use Rattle.name_lines.specs.Names.{quoted}
use Rattle.name_lines.proofs.put_quoted.Goals as goal

pub returns-then-is_plain : goal.returns-then-is_plain
unfolding quoted
returns-then-is_plain c = rw (sym c.is_plain.ensures ∙ c.if-is_plain.true) c.put.ensures

pub returns-else-is_plain : goal.returns-else-is_plain
unfolding quoted spelled
returns-else-is_plain c =
    rw (sym c.is_plain.ensures ∙ c.if-is_plain.false) (puts_then {s = 92 ∷ 120 ∷ []} c.put_all.ensures c.put_hex.ensures)
