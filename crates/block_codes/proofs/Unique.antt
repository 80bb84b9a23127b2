-- Any two results that meet a promise are the same: for each public function, `FUNCTION-unique`. Assumes nothing.
use mathlib.Core.Path.{◌≡◌}
use mathlib.Core.List.{List}
use Prim.Native.Nat.{ℕ}
use Rattle.std.specs.declared.result.Result.{Result}
use Rattle.bits.specs.declared.refusal.Refusal.{Refusal}
use Rattle.bits.proofs.Unique.{same}
use Rattle.block_codes.specs.Codes.{codes_of}
use Rattle.block_codes.specs.declared.BlockCodes.{BlockCodes}

pub codes-of-unique : (block : List ℕ) (r r' : Result BlockCodes Refusal) → r ≡ codes_of block → r' ≡ codes_of block → r ≡ r'
codes-of-unique block r r' = same
