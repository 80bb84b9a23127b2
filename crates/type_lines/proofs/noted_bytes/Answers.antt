-- `type_lines::noted_bytes` meets its contract. Assumes nothing.
use borrow.Author.Rules.{rules}
use Rattle.bits.proofs.Made.{made}
use Rattle.type_lines.specs.Types.{bytes_noted}
use Rattle.type_lines.proofs.noted_bytes.Goals as goal

pub returns : goal.returns
unfolding bytes_noted
returns c = made _ _ _ 32 _ 0 c.from_fn.ensures.items (λ i y q h k. search rules)
