-- What any superframe can carry beside its sound, whatever its bytes.
--     scale_small           a scale word reads as two factors from 0 to 7, or as number 5
--     number_small          a programme's number is 0 or 5
--     factor-small          and the factor of a channel 0 to 8
-- Assumes nothing.
use mathlib.Core.Path.{◌≡◌, refl}
use mathlib.Core.Logic.{◌⊎◌, inl, inr, ⊎_elim}
use mathlib.Core.List.{List}
use Prim.Native.Nat.{ℕ, ◌/◌, ◌%◌, ◌<◌, ◌≤◌}
use native.Mathlib.Omega.{arith}
use lib.Dec.{eqb}
use lib.ListN.{get_or, take}
use Rattle.std.specs.declared.option.Option.{Option}
use Rattle.std.specs.declared.option.Option.TheVariants.{Some, None}
use Rattle.bits.specs.Answer.{Answer}
use Rattle.bits.proofs.Tests.{either_way}
use Rattle.nearest.specs.Reading.{read_scale}
use Rattle.nearest.proofs.Fewest.{single-read, shared-read}
use Rattle.nearest.proofs.Search.{single-or-shared}
use Rattle.nearest.specs.Extra.{factors_in}
use Rattle.nearest.specs.declared.Factors.{Factors}
use Rattle.beside.specs.Beside.{extra_bits, extra_of, number_of_factors, factor_or, factor_read}

pub record Small (a : Answer ℕ) : Type 0 where
  pub number : (a.number ≡ 0) ⊎ (a.number ≡ 5)
  pub left : get_or a.values 0 0 ≤ 7
  pub right : get_or a.values 1 0 ≤ 7

pub scale_small : (bits : List ℕ) → Small (read_scale bits)
scale_small bits =
    ⊎_elim
    (λ n. let within = n.1.within in rw (single-read bits n.0 n.1) (record { number = inl refl; left = omega arith; right = omega arith }))
    (λ t. rw (shared-read bits t) (record { number = inr refl; left = omega arith; right = omega arith }))
    (single-or-shared bits)

pub number_small : (o : Option Factors) → (number_of_factors o ≡ 0) ⊎ (number_of_factors o ≡ 5)
number_small None = inr refl
number_small (Some f) = inl refl

side-small : (a : Answer ℕ) (k : ℕ) → Small a → factor_or (factors_in a) k < 9
unfolding factor_or
side-small a k small =
    let left = small.left in
    let right = small.right in
    either_way (eqb a.number 0)
    (λ t. rw t (either_way (eqb k 0) (λ u. rw u (omega (arith, left))) (λ u. rw u (omega (arith, right)))))
    (λ t. rw t (omega arith))

pub factor-small : (sf : List ℕ) (c : ℕ) → factor_read sf c < 9
unfolding factor_read extra_of
factor-small sf c = let bits = take 42 (extra_bits sf (c / 2)) in side-small (read_scale bits) (c % 2) (scale_small bits)
