-- `block_writer::are_codes` meets its contract. Assumes nothing.
use mathlib.Core.Path.{◌∙◌}
use Rattle.std.proofs.Common.{tests}
use Rattle.std.proofs.lemmas.Iterator.{YieldsList-from_slice}
use Rattle.std.proofs.lemmas.Iterator.Search.{all_from_yields_List}
use Rattle.bits.proofs.Every.{all-every-is}
use Rattle.sample.specs.Sample.{is_code}
use borrow.Author.Rules.{rules}
use Rattle.block_writer.proofs.are_codes.Goals as goal

pub returns : goal.returns
returns c =
    all_from_yields_List is_code _ _ _ c.all.ensures.ran (YieldsList-from_slice c.args.codes cc) (λ x b q k. search (rules, tests))
    ∙ all-every-is is_code c.args.codes
