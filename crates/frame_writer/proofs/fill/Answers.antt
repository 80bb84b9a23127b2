-- `frame_writer::fill` meets its contract: the first i bytes are made. Assumes nothing.
use mathlib.Core.Path.{◌≡◌, refl}
use Prim.Native.Nat.{◌*◌, ◌/◌}
use native.Mathlib.Omega.{arith}
use lib.ListN.{length}
use Rattle.bits.specs.Table.{tabulate}
use Rattle.bits.specs.Bits.{byte_at, bytes_of}
use Rattle.bits.proofs.Table.{tab-more, tab-done}
use borrow.Author.Rules.{rules}
use Rattle.frame_writer.proofs.fill.Goals as goal

pub loop-i-init : goal.loop-i-init
unfolding tabulate
loop-i-init c = (search rules, search rules, refl)

pub loop-i-preserved : goal.loop-i-preserved
loop-i-preserved c =
    let bits = c.args.bits in
    (search rules, search rules, tab-more (λ i. byte_at bits (8 * i)) c.loop-i.out c.loop-i.i _ (omega arith) c.loop-i.invariant.2 c.byte_from.ensures)

pub returns : goal.returns
unfolding bytes_of
returns c =
    let bits = c.args.bits in
    let sized : length bits / 8 ≡ 40 = omega arith in
    rw sized (tab-done (λ i. byte_at bits (8 * i)) c.loop-i.out 40 c.loop-i.i (omega arith) (omega arith) (omega arith) c.loop-i.invariant.2)
