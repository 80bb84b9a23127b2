-- `stretches::grown` meets its contract. Assumes nothing.
use Rattle.stretches.proofs.Laws.{same-counts}
use Rattle.stretches.proofs.grown.Goals as goal

pub returns : goal.returns
returns c =
    same-counts c.args.s c.args.n c.args.kind _ _ _ c.count.ensures c.count-2.ensures c.count-3.ensures
