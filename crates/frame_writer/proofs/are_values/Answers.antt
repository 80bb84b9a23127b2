-- `frame_writer::are_values` meets its contract. Assumes nothing.
use mathlib.Core.Path.{◌∙◌}
use native.Mathlib.Omega.{arith}
use borrow.Author.Tests.{le-leb, lt-leb}
use Rattle.std.proofs.Common.{tests}
use Rattle.std.proofs.lemmas.Iterator.{YieldsList-from_slice}
use Rattle.std.proofs.lemmas.Iterator.Search.{all_from_yields_List}
use Rattle.bits.specs.Bits.{are_bits}
use Rattle.bits.proofs.Every.{all-every-is}
use Rattle.frame_writer.specs.Write.{good_values}
use borrow.Author.Rules.{rules}
use Rattle.frame_writer.proofs.are_values.Goals as goal

pub returns-then-service-le1 : goal.returns-then-service-le1
unfolding good_values
returns-then-service-le1 c =
    let a = c.args in
    rw (le-leb a.service 1 (omega arith))
    (all_from_yields_List are_bits _ _ _ c.all.ensures.ran (YieldsList-from_slice a.blocks.now cc) (λ x b q k. search (rules, tests))
    ∙ all-every-is are_bits a.blocks.now)

pub returns-else-service-le1 : goal.returns-else-service-le1
unfolding good_values
returns-else-service-le1 c = rw (lt-leb c.args.service 1 (omega arith))
