-- `Pen::put_all` meets its contract. Assumes nothing.
use native.Mathlib.Omega.{arith}
use Rattle.text.proofs.Pens.{puts_none, puts_more}
use Rattle.text.proofs.pen.Pen.put_all.Goals as goal

pub loop-byte-init : goal.loop-byte-init
loop-byte-init c = puts_none _

pub loop-byte-preserved : goal.loop-byte-preserved
loop-byte-preserved c = puts_more _ _ (omega arith) c.loop-byte.invariant c.put.ensures
