-- `service_group::gather` meets its contract. Assumes nothing.
use Rattle.std.proofs.Common.{rules}
use Rattle.bits.proofs.Made.{made}
use Rattle.service_group.specs.Six.{group_after}
use Rattle.service_group.proofs.gather.Goals as goal

pub returns : goal.returns
unfolding group_after
returns c = made _ _ _ 32 _ 0 c.from_fn.ensures.items (λ i y q h k. search rules)
