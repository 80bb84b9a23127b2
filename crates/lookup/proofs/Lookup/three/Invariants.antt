-- `lookup::Lookup::three` meets its contract. The loop's invariant: what is to be found is found from the first place reached on. Assumes nothing.
use mathlib.Core.Path.{◌≡◌}
use Prim.Native.Nat.{◌-◌, ◌≤◌}
use Rattle.lookup.specs.Search.{three_from, three_in}
use Rattle.lookup.proofs.Lookup.three.Given as goal

abbrev pub invariant-loop-i : goal.invariant-loop-i
invariant-loop-i l =
    (l.i ≤ 63) × (three_from l.self.singles l.self.pairs.remainders l.self.pairs.places l.self.pairs.starts l.remainder l.i (63 - l.i) ≡ three_in l.self l.remainder)
