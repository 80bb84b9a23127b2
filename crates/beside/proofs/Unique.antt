-- Any two results that meet a promise are the same: for each public function `NAME-unique`. Assumes nothing.
use mathlib.Core.Path.{◌≡◌}
use mathlib.Core.List.{List}
use Prim.Native.Nat.{ℕ}
use Rattle.std.specs.declared.result.Result.{Result}
use Rattle.bits.specs.declared.refusal.Refusal.{Refusal}
use Rattle.bits.proofs.Unique.{same}
use Rattle.beside.specs.Beside.{programmes_answer, six_answer}
use Rattle.beside.specs.declared.Programmes.{Programmes}
use Rattle.beside.specs.declared.SixAndSync.{SixAndSync}

module _ (sf : List ℕ) where
  pub programmes-of-unique : (r r' : Result Programmes Refusal) → r ≡ programmes_answer sf → r' ≡ programmes_answer sf → r ≡ r'
  programmes-of-unique r r' = same

  pub six-and-sync-unique : (r r' : Result SixAndSync Refusal) → r ≡ six_answer sf → r' ≡ six_answer sf → r ≡ r'
  six-and-sync-unique r r' = same
