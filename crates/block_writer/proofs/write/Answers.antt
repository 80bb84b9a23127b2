-- `block_writer::write` meets its contract. Assumes nothing.
use mathlib.Core.Path.{◌≡◌, sym, ◌∙◌}
use mathlib.Core.Bool.{true, false, ◌&&◌}
use Rattle.bits.specs.Table.{every}
use Rattle.bits.specs.Bits.{are_bits}
use Rattle.sample.specs.Sample.{is_code}
use Rattle.block_writer.specs.Written.{written_block}
use Rattle.block_writer.proofs.write.Goals as goal

pub returns-then-not-in_range : goal.returns-then-not-in_range
unfolding written_block
returns-then-not-in_range c =
    let a = c.args in
    let refused : every is_code a.codes && are_bits a.extra ≡ false = sym c.in_range.ensures ∙ c.if-not-in_range.true in
    rw refused

pub returns : goal.returns
unfolding written_block
returns c =
    let a = c.args in
    let allowed : every is_code a.codes && are_bits a.extra ≡ true = sym c.in_range.ensures ∙ c.if-not-in_range.false in
    rw (allowed, c.bits_of.ensures)
