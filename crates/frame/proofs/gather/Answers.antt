-- `frame::gather` meets its contract. Assumes nothing.
use mathlib.Core.Path.{sym, ◌∙◌}
use native.Mathlib.Omega.{arith}
use borrow.Author.Tests.{lt-ltb}
use Rattle.bits.proofs.Table.{tab-ext}
use Rattle.bits.proofs.Bits.{bits_of-at}
use Rattle.frame.specs.Frame.{place_of, deinterleave}
use Rattle.frame.specs.Read.{block_of}
use Rattle.frame.proofs.gather.Goals as goal

pub returns : goal.returns
unfolding block_of deinterleave
returns c =
    let a = c.args in
    rw (lt-ltb a.b 4 (omega arith)) (c.every_second.ensures ∙ tab-ext 77 _ _ (λ j l. sym (bits_of-at a.bytes.now (place_of a.b j))))
