-- `tape::blocks::kinds_of` meets its contract. Assumes nothing.
use Rattle.bits.proofs.Made.{made}
use Rattle.tape.specs.Tape.{counted_marks}
use borrow.Author.Rules.{rules}
use Rattle.tape.proofs.blocks.kinds_of.Goals as goal

pub returns : goal.returns
unfolding counted_marks
returns c = made _ _ _ 512 _ 0 c.from_fn.ensures.items (λ n y q h k. search rules)
