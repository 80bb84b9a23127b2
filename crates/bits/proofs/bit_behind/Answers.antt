-- `bits::bit_behind` meets its contract: past the end every bit is 0. Assumes nothing.
use native.Mathlib.Omega.{arith}
use Rattle.bits.proofs.Bits.{past_end}
use Rattle.bits.proofs.bit_behind.Goals as goal

pub returns-else-at-n : goal.returns-else-at-n
returns-else-at-n c = past_end c.args.bits.now _ (omega arith)
