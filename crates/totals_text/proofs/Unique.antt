-- Any two results that meet the promise are the same: for `put_totals`, `put-totals-unique`. Assumes nothing.
use mathlib.Core.Path.{◌≡◌}
use Prim.Native.Nat.{ℕ}
use Rattle.std.specs.declared.result.Result.{Result}
use Rattle.bits.specs.Answer.{Answer}
use Rattle.bits.specs.declared.refusal.Refusal.{Refusal}
use Rattle.text.specs.Entry.{PutsWhole}
use Rattle.text.specs.declared.pen.Pen.{Pen}
use Rattle.text.proofs.Unique.{whole-unique}
use Rattle.running.specs.declared.Running.{Running}
use Rattle.totals_text.specs.Totals.{totals_text}

module _ (old new new' : Pen) (r r' : Result (Unit {0}) Refusal) (a : Answer ℕ) (t : Running) where
  pub put-totals-unique :
      PutsWhole old new r (totals_text a t) → PutsWhole old new' r' (totals_text a t) → (new.out.now ≡ new'.out.now) × (new.to ≡ new'.to) × (r ≡ r')
  put-totals-unique = whole-unique old new new' r r' (totals_text a t)
