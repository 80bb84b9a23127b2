-- Totals in range stay in range, whatever is given.
--     none-in-range         where a history begins
--     lost-in-range         after a lost superframe
--     taken-in-range        after one that is taken, with 64 blocks read in each of the eight positions
-- Assumes nothing.
use mathlib.Core.Path.{◌≡◌, refl}
use mathlib.Core.Bool.{true}
use Prim.Native.Nat.{ℕ, ◌+◌, ◌*◌, ◌/◌, ◌<◌, ◌≤◌}
use native.Mathlib.Omega.{arith}
use borrow.Author.Tests.{eq-eqb, le-leb}
use lib.Dec.{leb}
use lib.ListN.{get_or}
use Rattle.bits.specs.Table.{tabulate, every}
use Rattle.bits.proofs.Tests.{both}
use Rattle.bits.proofs.Every.{every-tab}
use Rattle.tape.specs.declared.blocks.Blocks.{Blocks}
use Rattle.running.specs.Running.{adds_up, programme_fits, sums_fit, given_in, most_given, running_in_range, has_room, no_running, with_taken, with_lost}
use Rattle.running.specs.declared.Running.{Running}
use Rattle.running.proofs.Sums.{sum_is}
use Rattle.running.proofs.More.{room}
use Rattle.running.proofs.Adds.{added-there}

pub record InEach (b : Blocks) : Type 0 where
  pub all : (p : ℕ) → p < 8 → get_or b.clean p 0 + get_or b.mended p 0 + get_or b.bad p 0 ≡ 64

in-range : (t : Running) → ((q : ℕ) → q < 16 → get_or t.clean q 0 + get_or t.mended q 0 + get_or t.bad q 0 ≡ 64 * t.taken) → t.taken + t.lost ≤ 1_000_000 → running_in_range t ≡ true
unfolding running_in_range sums_fit adds_up
in-range t sums l =
    both (sums_fit t) (leb (given_in t.taken t.lost) most_given)
    (every-tab (programme_fits t) 16 (λ q. q) (λ q m. eq-eqb _ _ (sums q m)))
    (le-leb (t.taken + t.lost) 1_000_000 l)

pub none-in-range : running_in_range no_running ≡ true
unfolding no_running running_in_range sums_fit adds_up every tabulate
none-in-range = refl

module _ (t : Running) (h : running_in_range t ≡ true) (r : has_room t ≡ true) where
  pub lost-in-range : running_in_range (with_lost t) ≡ true
  unfolding with_lost
  lost-in-range = in-range (with_lost t) (sum_is t h) (let few = room t r in omega (arith, few))

  pub taken-in-range : (b : Blocks) → InEach b → running_in_range (with_taken t b) ≡ true
  unfolding with_taken
  taken-in-range b e =
      in-range (with_taken t b)
      (λ q l.
      rw (added-there t.clean b.clean q l, added-there t.mended b.mended q l, added-there t.bad b.bad q l)
      (omega (arith, sum_is t h q l, e.all (q / 2) (omega arith))))
      (let few = room t r in omega (arith, few))
