-- `name_lines::put_lines` meets its contract. Assumes nothing.
use borrow.Author.Rules.{rules}
use Rattle.text.proofs.Pens.{puts_none}
use Rattle.name_lines.specs.Names.{channel_line, label_text}
use Rattle.name_lines.proofs.put_lines.Goals as goal

pub returns-in-Some : goal.returns-in-Some
unfolding label_text
returns-in-Some c =
    rw c.in-Some.is (c.put_turns.ensures (channel_line c.args.k c.args.old c.in-Some.new) (λ i p q h post. search rules))

pub returns-in_default : goal.returns-in_default
unfolding label_text
returns-in_default c = rw c.in_default.is (puts_none _)
