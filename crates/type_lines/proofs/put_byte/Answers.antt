-- `type_lines::put_byte` meets its contract. Assumes nothing.
use mathlib.Core.Path.{ap}
use borrow.Author.Tests.{eq-eqb, ne_eqb}
use Rattle.programme.specs.declared.Programme.{Programme}
use Rattle.text.proofs.Pens.{puts_as, puts_none}
use Rattle.type_lines.specs.Types.{type_line, byte_line}
use Rattle.type_lines.proofs.Heard.{heard, unheard}
use Rattle.type_lines.proofs.put_byte.Goals as goal

pub returns-then-old-new : goal.returns-then-old-new
unfolding byte_line
returns-then-old-new c = rw (eq-eqb _ _ c.if-old-new.true) (puts_none _)

pub returns-in-Ok : goal.returns-in-Ok
unfolding byte_line
returns-in-Ok c =
    let start = c.args in
    let h = heard start.new _ (rw c.in-Ok.is at c.read.ensures) in
    rw (ne_eqb _ _ c.if-old-new.false, h.0)
    (puts_as (ap (λ (p : Programme). type_line start.k start.c p.kind p.music p.mode) h.1) c.put_type.ensures)

pub returns-in_default : goal.returns-in_default
unfolding byte_line
returns-in_default c =
    rw (ne_eqb _ _ c.if-old-new.false, unheard c.args.new c.read.result c.in_default.not-Ok c.read.ensures) (puts_none _)
