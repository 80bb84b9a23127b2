-- Any two results that meet a promise are the same: for each public function, `FUNCTION-unique`. Assumes nothing.
use mathlib.Core.Path.{◌≡◌}
use mathlib.Core.List.{List}
use Prim.Native.Nat.{ℕ}
use Rattle.bits.proofs.Unique.{same}
use Rattle.eights.specs.Eights.{word_by, row_by, check_by}

module _ (table bits : List ℕ) (word r r' : ℕ) where
  pub of-word-unique : r ≡ word_by table word → r' ≡ word_by table word → r ≡ r'
  of-word-unique = same

  pub of-bits-unique : r ≡ row_by table bits → r' ≡ row_by table bits → r ≡ r'
  of-bits-unique = same

  pub check-of-unique : r ≡ check_by table bits → r' ≡ check_by table bits → r ≡ r'
  check-of-unique = same
