-- `beside::extra_bits` meets its contract. Assumes nothing.
use Rattle.bits.proofs.Made.{made}
use Rattle.beside.specs.Beside.{extra_bits}
use borrow.Author.Rules.{rules}
use Rattle.beside.proofs.extra_bits.Goals as goal

pub returns : goal.returns
unfolding extra_bits
returns c = made _ _ _ 64 _ 0 c.from_fn.ensures.items (λ f y q h k. search rules)
