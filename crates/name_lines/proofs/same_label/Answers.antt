-- `name_lines::same_label` meets its contract. Assumes nothing.
use mathlib.Core.Path.{◌∙◌}
use borrow.Author.Rules.{rules}
use Rattle.name_lines.proofs.Same.{same_parts}
use Rattle.name_lines.proofs.same_label.Goals as goal

pub returns : goal.returns
returns c =
    c.eq.ensures ∙ same_parts c.args.old.now c.args.new.now c.args.c (search rules) (search rules) c.requires
