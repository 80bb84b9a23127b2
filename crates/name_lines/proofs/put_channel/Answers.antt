-- `name_lines::put_channel` meets its contract. Assumes nothing.
use mathlib.Core.Path.{sym, ap, ◌∙◌}
use Rattle.text.proofs.Pens.{puts_as, puts_none}
use Rattle.text_rows.proofs.Turns.{part_cut}
use Rattle.name_lines.specs.Names.{label_line, channel_line}
use Rattle.name_lines.proofs.put_channel.Goals as goal

pub returns-then-unchanged : goal.returns-then-unchanged
unfolding channel_line
returns-then-unchanged c = rw (sym c.unchanged.ensures ∙ c.if-unchanged.true) (puts_none _)

pub returns : goal.returns
unfolding channel_line
returns c =
    let start = c.args in
    rw (sym c.unchanged.ensures ∙ c.if-unchanged.false) (puts_as (ap (label_line start.k start.c) (part_cut 8 start.c start.new.now)) c.put_label.ensures)
