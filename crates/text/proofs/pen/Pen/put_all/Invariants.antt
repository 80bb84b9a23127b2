-- `Pen::put_all` meets its contract: after i turns the first i bytes are put. Assumes nothing.
use lib.ListN.{take}
use Rattle.text.specs.Pens.{Puts}
use Rattle.text.proofs.pen.Pen.put_all.Given as goal

abbrev pub invariant-loop-byte : goal.invariant-loop-byte
invariant-loop-byte l = Puts l.initial.self l.self (take l.byte-index l.bytes)
