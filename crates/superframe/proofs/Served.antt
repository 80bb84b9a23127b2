-- The service bits of a superframe, given to the service of a state in range, are accepted.
--     sync-below        the bits of a sync are bits
--     accepted-is       what the service then answers
-- Assumes nothing.
use mathlib.Core.Path.{◌≡◌, subst}
use mathlib.Core.Bool.{true}
use mathlib.Core.List.{List}
use Prim.Native.Nat.{ℕ, ◌+◌, ◌*◌, ◌<◌}
use Rattle.std.specs.declared.result.Result.TheVariants.{Ok}
use Rattle.bits.specs.Digits.{Below}
use Rattle.bits.proofs.Digits.{below-drop, below-tab}
use Rattle.bits.proofs.Bits.{bit_at-below}
use Rattle.service.specs.Service.{served}
use Rattle.service.proofs.Machine.{in-range-fact, served-is}
use Rattle.beside.specs.Beside.{service_bit, service_bits, sync_of, six_and_sync}
use Rattle.beside.proofs.Carried.{service-there}
use Rattle.superframe.specs.State.{state_in_range}
use Rattle.superframe.specs.Take.{served_in}
use Rattle.superframe.specs.declared.state.State.{State}
use Rattle.superframe.proofs.Parts.{service-in-range}

pub sync-below : (sf : List ℕ) → Below 2 (six_and_sync sf).sync
unfolding six_and_sync sync_of service_bits
sync-below sf =
    below-drop 2 48 (service_bits sf)
    (below-tab 2 64 (service_bit sf) (λ f l. subst (λ (n : ℕ). n < 2) (service-there sf f) (bit_at-below sf (320 * f + 11))))

pub accepted-is : (s : State) (sf : List ℕ) → state_in_range s ≡ true → served s.service (six_and_sync sf).six (six_and_sync sf).sync ≡ Ok (served_in s sf)
accepted-is s sf h =
    served-is s.service (six_and_sync sf).six (in-range-fact s.service (service-in-range s h)) (six_and_sync sf).sync (sync-below sf)
