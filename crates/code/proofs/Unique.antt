-- Any two results that meet a promise are the same: for each public function, `FUNCTION-unique`. Assumes nothing.
use mathlib.Core.Path.{◌≡◌}
use mathlib.Core.List.{List}
use Prim.Native.Nat.{ℕ}
use Rattle.bits.proofs.Unique.{same}
use Rattle.bits.specs.Digits.{value}
use Rattle.remainder.specs.Remainder.{remainder, check_bits}
use Rattle.eights.specs.Eights.{remainders_of}
use Rattle.code.specs.Generators.{block_generator, scale_generator}

pub remainders-unique : (r r' : List ℕ) → r ≡ remainders_of block_generator → r' ≡ remainders_of block_generator → r ≡ r'
remainders-unique r r' = same

module _ (bits : List ℕ) (r r' : ℕ) where
  pub block-check-unique : r ≡ value 2 (check_bits block_generator bits) → r' ≡ value 2 (check_bits block_generator bits) → r ≡ r'
  block-check-unique = same

  pub block-remainder-unique : r ≡ value 2 (remainder block_generator bits) → r' ≡ value 2 (remainder block_generator bits) → r ≡ r'
  block-remainder-unique = same

  pub scale-check-unique : r ≡ value 2 (check_bits scale_generator bits) → r' ≡ value 2 (check_bits scale_generator bits) → r ≡ r'
  scale-check-unique = same
