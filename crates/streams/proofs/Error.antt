-- Numbers of errors.
--     above-nought      a number that is not below 1
--     error-is-one      a failure never counts as none
-- Assumes nothing.
use mathlib.Core.Path.{◌≡◌, refl}
use mathlib.Core.Bool.{false, true≢false}
use Prim.Native.Nat.{◌≤◌}
use native.Mathlib.Omega.{arith}
use borrow.Author.Tests.{ltb-false}
use lib.IntN.{ℤ, pos, negsuc}
use lib.Signed.{lt_z, mag}
use Rattle.bits.proofs.Tests.{either_way}
use Rattle.streams.specs.Error.{error_of}

pub above-nought : (z : ℤ) → lt_z z (pos 1) ≡ false → (z ≡ pos (mag z)) × (1 ≤ mag z)
above-nought (pos n) t = (refl, ltb-false n 1 t)
above-nought (negsuc n) t = absurd (true≢false t)

pub error-is-one : (z : ℤ) → 1 ≤ error_of z
unfolding error_of
error-is-one z = either_way (lt_z z (pos 1)) (λ t. rw t (omega arith)) (λ t. rw t (above-nought z t).1)
