-- Any two results that meet a promise are the same: for `put_header`, `put-header-unique`.
-- Assumes nothing.
use mathlib.Core.Path.{◌≡◌}
use Prim.Native.Nat.{ℕ}
use Rattle.std.specs.declared.result.Result.{Result}
use Rattle.bits.specs.declared.refusal.Refusal.{Refusal}
use Rattle.text.specs.Page.{Page}
use Rattle.text.specs.Entry.{entered}
use Rattle.text.proofs.Unique.{entered-unique}
use Rattle.wav.specs.Header.{entered_header}

module _ (p p' : Page) (r r' : Result (Unit {0}) Refusal) (start : Page) (b n : ℕ) where
  pub put-header-unique : entered r p ≡ entered_header start b n → entered r' p' ≡ entered_header start b n → (p ≡ p') × (r ≡ r')
  put-header-unique = entered-unique p p' r r' (entered_header start b n)
