-- `running::added` meets its contract. Assumes nothing.
use mathlib.Core.Path.{◌≡◌}
use mathlib.Core.List.{List}
use Prim.Native.Nat.{ℕ, ◌+◌, ◌/◌, ◌≤◌}
use lib.ListN.{length, get_or, take}
use Rattle.bits.specs.Table.{tabulate}
use Rattle.running.proofs.added.Given as goal

abbrev pub one : List ℕ → List ℕ → ℕ → ℕ
one totals counts q = get_or totals q 0 + get_or counts (q / 2) 0

abbrev pub invariant-loop-q : goal.invariant-loop-q
invariant-loop-q l = (l.q ≤ 16) × (length l.out ≡ 16) × (take l.q l.out ≡ tabulate l.q (one l.totals l.counts))
