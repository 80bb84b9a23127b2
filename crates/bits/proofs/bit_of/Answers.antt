-- `bits::bit_of` meets its contract. Assumes nothing.
use mathlib.Core.Path.{sym}
use Rattle.bits.proofs.Bits.{bit_at-shifted}
use Rattle.bits.proofs.bit_of.Goals as goal

pub returns : goal.returns
returns c = rw c.byte_of.ensures (sym (bit_at-shifted c.args.bytes.now c.args.k))
