-- `words::codes_in` meets its contract. Assumes nothing.
use lib.IntN.{pos}
use Rattle.bits.proofs.Made.{made}
use Rattle.words.proofs.codes_in.Goals as goal
use borrow.Author.Rules.{rules}

pub returns : goal.returns
returns c = made _ _ _ 4 _ (pos 0) c.from_fn.ensures.items (λ i y q h k. search rules)
