-- Any two results that meet the promise are the same: for `put_beside`, `put-beside-unique`. Assumes nothing.
use mathlib.Core.Path.{◌≡◌}
use mathlib.Core.List.{List}
use Prim.Native.Nat.{ℕ}
use Rattle.text.specs.Page.{Page, page, put_text}
use Rattle.text.proofs.Unique.{put-unique}
use Rattle.superframe.specs.declared.taking.Taken.{Taken}
use Rattle.beside_text.specs.Lines.{beside_text}

module _ (out out' : List ℕ) (r r' : ℕ) (start : Page) (t : Taken) where
  pub put-beside-unique : page out r ≡ put_text start (beside_text t) → page out' r' ≡ put_text start (beside_text t) → (out ≡ out') × (r ≡ r')
  put-beside-unique = put-unique out out' r r' (put_text start (beside_text t))
