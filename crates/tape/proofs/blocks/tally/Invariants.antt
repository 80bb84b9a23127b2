-- `tape::blocks::tally` meets its contract. Assumes nothing.
use mathlib.Core.Path.{◌≡◌}
use Prim.Native.Nat.{◌+◌, ◌*◌, ◌≤◌}
use lib.Dec.{eqb}
use lib.ListN.{get_or}
use Rattle.tape.specs.Tape.{how_many}
use Rattle.tape.proofs.blocks.tally.Given as goal

abbrev pub invariant-loop-f : goal.invariant-loop-f
invariant-loop-f l =
    (l.f ≤ 64) × (l.sum ≡ how_many l.f (λ f. eqb (get_or l.marks (8 * f + l.p) 0) l.mark)) × (l.sum ≤ l.f)
