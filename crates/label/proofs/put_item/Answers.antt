-- `label::put_item` meets its contract. Assumes nothing.
use mathlib.Core.Bool.{cond}
use mathlib.Core.List.{[]}
use borrow.Author.Tests.{eq-eqb, ne_eqb}
use Rattle.bits.specs.Letters.{letters}
use Rattle.text.specs.Pens.{Puts}
use Rattle.text.proofs.Pens.{puts_none, puts_then}
use Rattle.label.specs.Lines.{item}
use Rattle.label.proofs.put_item.Goals as goal
use Rattle.label.proofs.put_item.Goals.{then-before, else-before}

pub returns-then-n-eq0 : goal.returns-then-n-eq0
unfolding item
returns-then-n-eq0 c = rw (eq-eqb _ _ c.if-n-eq0.true) (puts_none _)

pub returns : goal.returns
unfolding item letters
returns c =
    let comma : Puts c.args.pen.now c.if-before.pen (cond c.args.before (letters ", ") []) =
    elim c.if-before.branch [
      | then-before w ↦ rw (w.pen-is, w.if-before.true) w.put_all.ensures
      | else-before w ↦ rw (w.pen-is, w.if-before.false) (puts_none _)
    ] in
    rw (ne_eqb _ _ c.if-n-eq0.false) (puts_then comma (puts_then c.put_all-2.ensures c.put_next.ensures))
