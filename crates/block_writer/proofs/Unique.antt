-- Any two results that meet a promise are the same: for each public function, `FUNCTION-unique`. Assumes nothing.
use mathlib.Core.Path.{◌≡◌}
use mathlib.Core.List.{List}
use Prim.Native.Nat.{ℕ}
use lib.IntN.{ℤ}
use Rattle.std.specs.declared.result.Result.{Result}
use Rattle.bits.specs.declared.refusal.Refusal.{Refusal}
use Rattle.bits.proofs.Unique.{same}
use Rattle.block_writer.specs.Written.{written_block}

pub write-unique : (codes : List ℤ) (extra : List ℕ) (r r' : Result (List ℕ) Refusal) → r ≡ written_block codes extra → r' ≡ written_block codes extra → r ≡ r'
write-unique codes extra r r' = same
