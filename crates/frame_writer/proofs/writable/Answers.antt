-- `frame_writer::writable` meets its contract. Assumes nothing.
use mathlib.Core.Path.{sym, ◌∙◌}
use native.Mathlib.Omega.{arith}
use Rattle.frame_writer.proofs.Writing.{number_size, number-value, number-none}
use Rattle.frame_writer.proofs.writable.Goals as goal

pub returns-then-size-ne40 : goal.returns-then-size-ne40
returns-then-size-ne40 c = let a = c.args in number_size a.size a.service a.blocks.now (λ e. omega arith)

pub returns-then-not-are_values : goal.returns-then-not-are_values
returns-then-not-are_values c =
    let a = c.args in
    number-value a.size a.service a.blocks.now (omega arith) (sym c.are_values.ensures ∙ c.if-not-are_values.true)

pub returns : goal.returns
returns c =
    let a = c.args in
    number-none a.size a.service a.blocks.now (omega arith) (sym c.are_values.ensures ∙ c.if-not-are_values.false)
