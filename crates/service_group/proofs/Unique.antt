-- Any two results that meet a promise are the same: for each public function, `FUNCTION-unique`. Assumes nothing.
use mathlib.Core.Path.{◌≡◌}
use mathlib.Core.Bool.{Bool}
use mathlib.Core.List.{List}
use Prim.Native.Nat.{ℕ}
use Rattle.bits.specs.Table.{tabulate}
use Rattle.bits.proofs.Unique.{same}
use Rattle.service_group.specs.Six.{group_after, label_byte, stage_after, is_ready}

pub gather-unique : (r r' : List ℕ) (p : ℕ) (g six : List ℕ) → r ≡ group_after p g six → r' ≡ group_after p g six → r ≡ r'
gather-unique r r' p g six = same

pub write-labels-unique : (r r' : List ℕ) (t : ℕ) (l cs : List ℕ) → r ≡ tabulate 256 (label_byte t l cs) → r' ≡ tabulate 256 (label_byte t l cs) → r ≡ r'
write-labels-unique r r' t l cs = same

pub stage-after-unique : (r r' : ℕ) (p t : ℕ) (g : List ℕ) → r ≡ stage_after p t g → r' ≡ stage_after p t g → r ≡ r'
stage-after-unique r r' p t g = same

pub ready-unique : (r r' : Bool) (p t : ℕ) → r ≡ is_ready p t → r' ≡ is_ready p t → r ≡ r'
ready-unique r r' p t = same
