-- Any two results that meet the promise are the same: for `put_frames`, `put-frames-unique`. Assumes nothing.
use mathlib.Core.Path.{◌≡◌}
use mathlib.Core.List.{List}
use Prim.Native.Nat.{ℕ}
use lib.IntN.{ℤ}
use Rattle.text.specs.Page.{Page, page}
use Rattle.text.proofs.Unique.{put-unique}
use Rattle.frames_text.specs.Frames.{frames_put}

module _ (out out' : List ℕ) (r r' : ℕ) (start : Page) (samples : List ℤ) (marks : List ℕ) where
  pub put-frames-unique :
      page out r ≡ frames_put start samples marks → page out' r' ≡ frames_put start samples marks → (out ≡ out') × (r ≡ r')
  put-frames-unique = put-unique out out' r r' (frames_put start samples marks)
