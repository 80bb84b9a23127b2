-- `tape::blocks::tallies` meets its contract. Assumes nothing.
use Rattle.bits.proofs.Made.{made}
use borrow.Author.Rules.{rules}
use Rattle.tape.proofs.blocks.tallies.Goals as goal

pub returns : goal.returns
returns c = made _ _ _ 8 _ 0 c.from_fn.ensures.items (λ p y q h k. search rules)
