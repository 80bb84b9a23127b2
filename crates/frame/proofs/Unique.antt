-- Any two results that meet a promise are the same: for each public function, `FUNCTION-unique`. Assumes nothing.
use mathlib.Core.Path.{◌≡◌}
use mathlib.Core.List.{List}
use Prim.Native.Nat.{ℕ}
use Rattle.std.specs.declared.result.Result.{Result}
use Rattle.bits.specs.declared.refusal.Refusal.{Refusal}
use Rattle.bits.proofs.Unique.{same}
use Rattle.frame.specs.Frame.{sync_word, service_in}
use Rattle.frame.specs.Read.{wrong_sync, gathered_of, read_frame}
use Rattle.frame.specs.declared.FrameRead.{FrameRead}
use Rattle.frame.specs.declared.Letter.{Letter}

pub sync-of-unique : (letter : Letter) (r r' : List ℕ) → r ≡ sync_word letter → r' ≡ sync_word letter → r ≡ r'
sync-of-unique letter r r' = same

pub carried-unique : (letter : Letter) (s r r' : ℕ) → r ≡ service_in letter s → r' ≡ service_in letter s → r ≡ r'
carried-unique letter s r r' = same

module _ (letter : Letter) (bytes : List ℕ) where
  pub sync-errors-unique : (r r' : ℕ) → r ≡ wrong_sync letter bytes → r' ≡ wrong_sync letter bytes → r ≡ r'
  sync-errors-unique r r' = same

  pub read-unique : (r r' : Result FrameRead Refusal) → r ≡ read_frame letter bytes → r' ≡ read_frame letter bytes → r ≡ r'
  read-unique r r' = same

pub block-of-unique : (bytes : List ℕ) (b : ℕ) (r r' : Result (List ℕ) Refusal) → r ≡ gathered_of bytes b → r' ≡ gathered_of bytes b → r ≡ r'
block-of-unique bytes b r r' = same
