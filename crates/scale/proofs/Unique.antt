-- Any two results that meet a promise are the same: `write-unique`. Assumes nothing.
use mathlib.Core.Path.{◌≡◌}
use mathlib.Core.List.{List}
use Prim.Native.Nat.{ℕ}
use Rattle.std.specs.declared.result.Result.{Result}
use Rattle.bits.specs.declared.refusal.Refusal.{Refusal}
use Rattle.bits.proofs.Unique.{same}
use Rattle.scale.specs.Word.{written_scale}

pub write-unique : (r r' : Result (List ℕ) Refusal) (left right : ℕ) → r ≡ written_scale left right → r' ≡ written_scale left right → r ≡ r'
write-unique r r' left right = same
