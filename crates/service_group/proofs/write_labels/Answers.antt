-- `service_group::write_labels` meets its contract. Assumes nothing.
use Rattle.std.proofs.Common.{rules}
use Rattle.bits.proofs.Made.{made}
use Rattle.service_group.proofs.write_labels.Goals as goal

pub returns : goal.returns
returns c = made _ _ _ 256 _ 0 c.from_fn.ensures.items (λ i y q h k. search rules)
