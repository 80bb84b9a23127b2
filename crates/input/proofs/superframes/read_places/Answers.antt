-- `input::read_places` meets its contract. Assumes nothing.
use Rattle.std.proofs.Common.{rules, refl, arith}
use Rattle.input.proofs.HandedOn.{handed_none, handed_next, handed_from}
use Rattle.input.proofs.superframes.read_places.Goals as goal

pub loop-k-init : goal.loop-k-init
loop-k-init g c = (_, _, refl, search rules, search rules, handed_none (search rules), search rules, (λ a b. (a, b)), λ e. grind arith)

pub loop-k-preserved : goal.loop-k-preserved
loop-k-preserved g c = (_, _, search rules, search rules, search rules, handed_next c.loop-k.invariant.5 (search rules) (_, c.in_ok-take.ensures), search rules, (λ a b. (search rules, search rules)), λ e. search rules)

pub returns-clause-bound : goal.returns-clause-bound
returns-clause-bound g c = search rules

pub returns-clause-handed : goal.returns-clause-handed
returns-clause-handed g c = (c.loop-k.take, handed_from (search rules) c.loop-k.invariant.5)
