-- Any two results that meet a promise are the same: for each public function, `NAME-unique`. Assumes nothing.
use mathlib.Core.Path.{◌≡◌}
use mathlib.Core.Bool.{Bool}
use Rattle.std.specs.declared.result.Result.{Result}
use Rattle.bits.specs.declared.refusal.Refusal.{Refusal}
use Rattle.bits.proofs.Unique.{same}
use Rattle.tape.specs.declared.blocks.Blocks.{Blocks}
use Rattle.running.specs.Running.{running_in_range, has_room, no_running, taken_step, lost_step}
use Rattle.running.specs.declared.Running.{Running}

pub none-unique : (r r' : Running) → r ≡ no_running → r' ≡ no_running → r ≡ r'
none-unique r r' = same

module _ (t : Running) where
  pub in-range-unique : (r r' : Bool) → r ≡ running_in_range t → r' ≡ running_in_range t → r ≡ r'
  in-range-unique r r' = same

  pub has-room-unique : (r r' : Bool) → r ≡ has_room t → r' ≡ has_room t → r ≡ r'
  has-room-unique r r' = same

  pub take-unique : (b : Blocks) (r r' : Result Running Refusal) → r ≡ taken_step t b → r' ≡ taken_step t b → r ≡ r'
  take-unique b r r' = same

  pub lose-unique : (r r' : Result Running Refusal) → r ≡ lost_step t → r' ≡ lost_step t → r ≡ r'
  lose-unique r r' = same
