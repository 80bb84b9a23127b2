-- `lookup::first_in` meets its contract. The loop's invariant: what is to be found is found from the place reached on. Assumes nothing.
use mathlib.Core.Path.{◌≡◌}
use Prim.Native.Nat.{◌-◌}
use Rattle.lookup.specs.Search.{first_from}
use Rattle.lookup.proofs.first_in.Given as goal

abbrev pub invariant-loop-k : goal.invariant-loop-k
invariant-loop-k l =
    first_from l.list l.number l.k (l.k-end - l.k) ≡ first_from l.list l.number l.from (l.k-end - l.from)
