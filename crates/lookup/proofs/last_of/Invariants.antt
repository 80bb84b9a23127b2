-- `lookup::last_of` meets its contract. The loop's invariant: the last of the places passed. Assumes nothing.
use mathlib.Core.Path.{◌≡◌}
use Prim.Native.Nat.{◌≤◌}
use Rattle.lookup.specs.Search.{last_of}
use Rattle.lookup.proofs.last_of.Given as goal

abbrev pub invariant-loop-k : goal.invariant-loop-k
invariant-loop-k l = (l.k ≤ 63) × (l.at ≡ last_of l.list l.number l.k)
