-- `outside::channels` meets its contract. Assumes nothing.
use borrow.Author.Rules.{rules}
use Rattle.bits.proofs.Made.{made}
use Rattle.outside.proofs.channels.Goals as goal

pub returns : goal.returns
returns c = made _ _ _ 32 _ 0 c.from_fn.ensures.items (λ i y q h k. search rules)
