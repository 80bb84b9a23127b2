-- `block_codes::all_codes` meets its contract. Assumes nothing.
use lib.IntN.{pos}
use Rattle.bits.proofs.Made.{made}
use Rattle.block_codes.specs.Codes.{codes_at}
use borrow.Author.Rules.{rules}
use Rattle.block_codes.proofs.all_codes.Goals as goal

pub returns : goal.returns
unfolding codes_at
returns c = made _ _ _ 4 _ (pos 0) c.from_fn.ensures.items (λ i y q h k. search rules)
