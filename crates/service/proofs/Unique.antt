-- Any two results that meet a promise are the same: for each public function, `FUNCTION-unique`. Assumes nothing.
use mathlib.Core.Path.{◌≡◌}
use mathlib.Core.Bool.{Bool}
use mathlib.Core.List.{List}
use Prim.Native.Nat.{ℕ}
use Rattle.bits.proofs.Unique.{same}
use Rattle.service.specs.Service.{searching_service, in_range, served}
use Rattle.service.specs.declared.Service.{Service}
use Rattle.service.specs.declared.Served.{Served}
use Rattle.std.specs.declared.result.Result.{Result}
use Rattle.bits.specs.declared.refusal.Refusal.{Refusal}

pub searching-unique : (r r' : Service) → r ≡ searching_service → r' ≡ searching_service → r ≡ r'
searching-unique r r' = same

pub in-range-unique : (r r' : Bool) (s : Service) → r ≡ in_range s → r' ≡ in_range s → r ≡ r'
in-range-unique r r' s = same

pub serve-unique : (r r' : Result (Served Service) Refusal) (s : Service) (six sync : List ℕ) → r ≡ served s six sync → r' ≡ served s six sync → r ≡ r'
serve-unique r r' s six sync = same
