-- `frame_writer::interleaved` meets its contract. Assumes nothing.
use mathlib.Core.Path.{◌≡◌, sym, ◌∙◌}
use native.Mathlib.Omega.{arith}
use lib.ListN.{length, get_or}
use Rattle.bits.proofs.Made.{made}
use Rattle.bits.proofs.Table.{tab-get_or}
use Rattle.frame.specs.Frame.{interleave}
use Rattle.frame.proofs.Interleave.{length-interleave}
use borrow.Author.Rules.{rules}
use Rattle.frame_writer.proofs.interleaved.Goals as goal

pub returns : goal.returns
returns c =
    let lower = c.args.lower in
    let higher = c.args.higher in
    let same : length lower ≡ length higher = search rules in
    made _ (λ k. get_or (interleave lower higher) k 0) _ 154 _ 0 c.from_fn.ensures.items (λ k y q h x. search rules)
    ∙ sym (tab-get_or 154 (interleave lower higher) 0 (length-interleave lower higher same ∙ omega arith))
