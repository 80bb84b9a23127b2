-- `kinds::lost` meets its contract. Assumes nothing.
use mathlib.Core.Path.{refl}
use Rattle.bits.specs.Table.{tabulate}
use Rattle.kinds.specs.Kinds.{lost_kinds}
use Rattle.kinds.proofs.lost.Goals as goal

pub returns : goal.returns
unfolding lost_kinds tabulate
returns c = refl
