-- Any two results that meet the promise are the same: for `put_superframe`, `put-superframe-unique`. Assumes nothing.
use mathlib.Core.Path.{◌≡◌}
use mathlib.Core.List.{List}
use Prim.Native.Nat.{ℕ}
use lib.IntN.{ℤ}
use Rattle.std.specs.declared.result.Result.{Result}
use Rattle.bits.specs.declared.refusal.Refusal.{Refusal}
use Rattle.text.specs.Page.{Page}
use Rattle.text.specs.Entry.{entered}
use Rattle.text.proofs.Unique.{entered-unique}
use Rattle.superframe.specs.declared.taking.Taken.{Taken}
use Rattle.superframe.specs.declared.taking.NotTaken.{NotTaken}
use Rattle.transcript_text.specs.Superframe.{entered_superframe}

module _ (p p' : Page) (r r' : Result (Unit {0}) Refusal) (start : Page) (k : ℕ) (t : Result Taken NotTaken) (samples : List ℤ) (marks : List ℕ) where
  pub put-superframe-unique :
      entered r p ≡ entered_superframe start k t samples marks → entered r' p' ≡ entered_superframe start k t samples marks → (p ≡ p') × (r ≡ r')
  put-superframe-unique = entered-unique p p' r r' (entered_superframe start k t samples marks)
