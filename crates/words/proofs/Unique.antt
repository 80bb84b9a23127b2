-- Any two results that meet a promise are the same: for each public function, `FUNCTION-unique`. Assumes nothing.
use mathlib.Core.Path.{◌≡◌}
use mathlib.Core.List.{List}
use Prim.Native.Nat.{ℕ}
use Rattle.bits.proofs.Unique.{same}
use Rattle.words.specs.Words.{told_by, true_reader}
use Rattle.words.specs.declared.Reader.{Reader}
use Rattle.words.specs.declared.Told.{Told}

pub read-by-unique : (r r' : Told) (table singles pairs places starts : List ℕ) (radius : ℕ) (bits : List ℕ)
    → r ≡ told_by table singles pairs places starts radius bits → r' ≡ told_by table singles pairs places starts radius bits → r ≡ r'
read-by-unique r r' table singles pairs places starts radius bits = same

pub new-unique : (t u : Reader) → t ≡ true_reader → u ≡ true_reader → t ≡ u
new-unique t u = same
