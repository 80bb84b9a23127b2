-- Laws of one superframe more.
--     allowed-number    the number of what one superframe more is refused for
--     free              nothing is refused where the totals are in range and the history has room
--     goes_on, stays    what is answered then, and else
--     stepped-free      the same from the two tests
-- Assumes nothing.
use mathlib.Core.Path.{◌≡◌}
use mathlib.Core.Bool.{true}
use Prim.Native.Nat.{◌+◌, ◌<◌}
use borrow.Author.Tests.{ltb-true}
use Rattle.std.specs.declared.result.Result.TheVariants.{Ok, Err}
use Rattle.bits.specs.Refused.{number_in}
use Rattle.bits.specs.declared.refusal.Refusal.{Refusal}
use Rattle.bits.proofs.Tests.{either_way}
use Rattle.running.specs.Running.{running_in_range, has_room, step_number, allowed, stepped_to}
use Rattle.running.specs.declared.Running.{Running}

module _ (t : Running) where
  pub allowed-number : number_in (allowed t) ≡ step_number t
  unfolding allowed step_number
  allowed-number = either_way (running_in_range t) (λ u. either_way (has_room t) (λ v. rw (u, v)) (λ v. rw (u, v))) (λ u. rw u)

  pub free : (u : Unit {0}) → allowed t ≡ Ok u → (running_in_range t ≡ true) × (has_room t ≡ true)
  unfolding allowed
  free w =
      either_way (running_in_range t)
      (λ u. either_way (has_room t) (λ v e. (u, v)) (λ v. rw (u, v) (λ e. cc)))
      (λ u. rw u (λ e. cc))

  pub room : has_room t ≡ true → t.taken + t.lost < 1_000_000
  unfolding has_room
  room e = ltb-true (t.taken + t.lost) 1_000_000 e

  module _ (next : Running) where
    pub goes_on : (u : Unit {0}) → allowed t ≡ Ok u → stepped_to t next ≡ Ok next
    unfolding stepped_to
    goes_on u e = rw e

    pub stays : (why : Refusal) → allowed t ≡ Err why → stepped_to t next ≡ Err why
    unfolding stepped_to
    stays why e = rw e

module _ (t : Running) (h : running_in_range t ≡ true) (r : has_room t ≡ true) where
  no-refusal : allowed t ≡ Ok tt
  unfolding allowed
  no-refusal = rw (h, r)

pub stepped-free : (t next : Running) → running_in_range t ≡ true → has_room t ≡ true → stepped_to t next ≡ Ok next
stepped-free t next h r = goes_on t next tt (no-refusal t h r)
