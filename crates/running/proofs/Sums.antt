-- Laws of the sums of running totals.
--     programmes        the numbers of the sixteen programmes, from 0
--     sixteen, itself   there are sixteen, and each stands in its place
--     sum_is            in range, the blocks of a programme add up to 64 for each superframe taken
--     bounded           so no number of blocks is more than those of a full history
-- Assumes nothing.
use mathlib.Core.Path.{◌≡◌}
use mathlib.Core.Bool.{true}
use mathlib.Core.List.{List}
use Prim.Native.Nat.{ℕ, ◌+◌, ◌*◌, ◌<◌, ◌≤◌}
use native.Mathlib.Omega.{arith}
use borrow.Author.Tests.{eqb-true, leb-true}
use lib.Dec.{leb}
use lib.ListN.{length, get_or}
use Rattle.bits.specs.Table.{tabulate}
use Rattle.bits.proofs.Table.{length-tab, get_or-tab}
use Rattle.bits.proofs.Tests.{both_left, both_right}
use Rattle.bits.proofs.Every.{every-each}
use Rattle.running.specs.Running.{adds_up, programme_fits, sums_fit, given_in, most_given, running_in_range, Bounded}
use Rattle.running.specs.declared.Running.{Running}

abbrev pub programmes : List ℕ
programmes = tabulate 16 (λ q. q)

pub sixteen : length programmes ≡ 16
sixteen = length-tab 16 (λ (q : ℕ). q)

pub itself : (q : ℕ) → q < 16 → get_or programmes q 0 ≡ q
itself q l = get_or-tab 16 (λ (q : ℕ). q) q 0 l

module _ (t : Running) (h : running_in_range t ≡ true) where
  pub sum_is : (q : ℕ) → q < 16 → get_or t.clean q 0 + get_or t.mended q 0 + get_or t.bad q 0 ≡ 64 * t.taken
  unfolding running_in_range sums_fit adds_up
  sum_is q l =
      let all = both_left (sums_fit t) (leb (given_in t.taken t.lost) most_given) h in
      let here = every-each (programme_fits t) programmes q 0 all (omega (arith, sixteen)) in
      eqb-true _ _ (rw (itself q l) at here)

  pub few : t.taken + t.lost ≤ 1_000_000
  unfolding running_in_range
  few = leb-true (t.taken + t.lost) 1_000_000 (both_right (sums_fit t) (leb (given_in t.taken t.lost) most_given) h)

  pub bounded : Bounded t.clean × Bounded t.mended × Bounded t.bad
  bounded = (
    record { each = λ q l. omega (arith, sum_is q l, few) },
    record { each = λ q l. omega (arith, sum_is q l, few) },
    record { each = λ q l. omega (arith, sum_is q l, few) },
  )
