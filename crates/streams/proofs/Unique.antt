-- Any two results that meet a promise are the same: for each public function that has one, `FUNCTION-unique`. Assumes nothing.
use mathlib.Core.Path.{◌≡◌}
use Prim.Native.Nat.{ℕ}
use Rattle.bits.proofs.Unique.{same}
use Rattle.streams.specs.declared.errno.Errno.{Errno}
use Rattle.streams.specs.declared.CutOff.{CutOff}
use Rattle.streams.specs.declared.progress.Progress.{Progress}

pub from-cut-off-unique : (cut : CutOff) (e e' : Errno) → e ≡ cut.error → e' ≡ cut.error → e ≡ e'
from-cut-off-unique cut e e' = same

-- its three parts are all that it holds
pub new-unique : (r r' : Progress) {w : _} {n : ℕ} → (r.watched ≡ w) × ((r.done ≡ 0) × (r.promised ≡ n)) → (r'.watched ≡ w) × ((r'.done ≡ 0) × (r'.promised ≡ n))
    → (r.watched ≡ r'.watched) × ((r.done ≡ r'.done) × (r.promised ≡ r'.promised))
new-unique r r' h h' = (same h.0 h'.0, (same h.1.0 h'.1.0, same h.1.1 h'.1.1))
