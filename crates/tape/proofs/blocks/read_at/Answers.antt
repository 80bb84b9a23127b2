-- `tape::blocks::read_at` meets its contract. Assumes nothing.
use mathlib.Core.Path.{sym, ◌∙◌}
use native.Mathlib.Omega.{arith}
use borrow.Author.Tests.{eq-eqb, lt-ltb, le-ltb}
use lib.ListN.{length}
use Rattle.tape.specs.Tape.{quad_by}
use Rattle.tape.proofs.blocks.read_at.Goals as goal
use Rattle.tape.proofs.blocks.read_at.Goals.{then-not-is_radius-via-then-not-is_radius, then-not-is_radius-via-else-not-is_radius+then-f-ge64, then-not-is_radius-via-else-not-is_radius+else-f-ge64+then-p-ge8}

pub returns-then-not-is_radius : goal.returns-then-not-is_radius
unfolding quad_by
returns-then-not-is_radius c =
    let a = c.args in
    rw (eq-eqb (length a.sf.now) 5120 c.in-Some.ensures.cases.long)
    (elim c.then-not-is_radius.branch [ then-not-is_radius-via-then-not-is_radius w ↦ rw (sym c.is_radius.ensures ∙ w.if-not-is_radius.true) | then-not-is_radius-via-else-not-is_radius+then-f-ge64 w ↦ rw (sym c.is_radius.ensures ∙ w.if-not-is_radius.false, le-ltb a.f 64 (omega arith)) | then-not-is_radius-via-else-not-is_radius+else-f-ge64+then-p-ge8 w ↦ rw (sym c.is_radius.ensures ∙ w.if-not-is_radius.false, lt-ltb a.f 64 (omega arith), le-ltb a.p 8 (omega arith)) ])
