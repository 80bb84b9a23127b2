-- `put_spelled` meets its contract: after i turns the pen has put the texts of the first i bytes. Assumes nothing.
use mathlib.Core.Path.{ap}
use native.Mathlib.Omega.{arith}
use lib.Seq.{take_all}
use Rattle.text.proofs.Pens.{puts_as}
use Rattle.text_rows.specs.Rows.{spelled}
use Rattle.text_rows.proofs.Spelled.{spells_none, spells_more}
use Rattle.text_rows.proofs.put_spelled.Goals as goal

pub loop-byte-init : goal.loop-byte-init
loop-byte-init g c f puts = spells_none f _

pub loop-byte-preserved : goal.loop-byte-preserved
loop-byte-preserved g c f puts = spells_more f _ _ (omega arith) (c.loop-byte.invariant f puts) (puts _ _ _ c.put.ensures)

pub returns : goal.returns
returns g c f puts = puts_as (ap (spelled f) (take_all c.loop-byte.byte-index c.args.bytes.now (omega arith))) (c.loop-byte.invariant f puts)
