-- Any two results that meet a promise are the same: for each public function, `FUNCTION-unique`. Assumes nothing.
use mathlib.Core.Path.{◌≡◌}
use mathlib.Core.Bool.{Bool}
use mathlib.Core.List.{List}
use Prim.Native.Nat.{ℕ}
use Rattle.bits.proofs.Unique.{same}
use Rattle.service_sync.specs.Sync.{kind_of, next_position, drops_with, number_of}
use Rattle.service_sync.specs.declared.Kind.{Kind}

pub kind-of-unique : (r r' : Kind) (sync : List ℕ) → r ≡ kind_of sync → r' ≡ kind_of sync → r ≡ r'
kind-of-unique r r' sync = same

pub next-position-unique : (r r' : ℕ) (k : Kind) (p : ℕ) → r ≡ next_position k p → r' ≡ next_position k p → r ≡ r'
next-position-unique r r' k p = same

pub drops-unique : (r r' : Bool) (k : Kind) (p : ℕ) → r ≡ drops_with k p → r' ≡ drops_with k p → r ≡ r'
drops-unique r r' k p = same

pub number-of-unique : (r r' : ℕ) (k : Kind) → r ≡ number_of k → r' ≡ number_of k → r ≡ r'
number-of-unique r r' k = same
