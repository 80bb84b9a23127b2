-- Any two results that meet a promise are the same, and so is the lent memory: for each public function and method, `NAME-unique`. Assumes nothing.
use mathlib.Core.Path.{◌≡◌}
use mathlib.Core.List.{List}
use Prim.Native.Nat.{ℕ}
use Rattle.std.specs.declared.result.Result.{Result}
use Rattle.bits.specs.declared.refusal.Refusal.{Refusal}
use Rattle.bits.proofs.Unique.{same}
use lib.IntN.{ℤ}
use Rattle.service.specs.declared.Served.{Served}
use Rattle.superframe.specs.Take.{Took}
use Rattle.superframe.specs.declared.taking.Taken.{Taken}
use Rattle.superframe.specs.declared.taking.NotTaken.{NotTaken}
use Rattle.superframe.specs.State.{fresh_state, lost_with, serviced_with, reset_with}
use Rattle.superframe.specs.declared.state.State.{State}

pub fresh-unique : (r r' : State) → r ≡ fresh_state → r' ≡ fresh_state → r ≡ r'
fresh-unique r r' = same

module _ (s : State) where
  pub lose-unique : (r r' : Result State Refusal) → r ≡ lost_with s → r' ≡ lost_with s → r ≡ r'
  lose-unique r r' = same

  pub take-service-unique : (r r' : Result (Served State) Refusal) (six sync : List ℕ) → r ≡ serviced_with s six sync → r' ≡ serviced_with s six sync → r ≡ r'
  take-service-unique r r' six sync = same

  pub reset-unique : (r r' : Result State Refusal) → r ≡ reset_with s → r' ≡ reset_with s → r ≡ r'
  reset-unique r r' = same

module _ (radius : ℕ) (s : State) (sf : List ℕ) (samples : List ℤ) (marks : List ℕ) (r r' : Result Taken NotTaken) (x x' : List ℤ) (m m' : List ℕ) where
  pub take-unique : Took radius s sf samples marks r x m → Took radius s sf samples marks r' x' m' → (r ≡ r') × (x ≡ x') × (m ≡ m')
  take-unique a b = (same a.answer b.answer, same a.sound b.sound, same a.marked b.marked)
