-- Any two results that meet the promise are the same: for `put_listing`, `put-listing-unique`. Assumes nothing.
use mathlib.Core.Path.{◌≡◌}
use Prim.Native.Nat.{ℕ}
use Rattle.std.specs.declared.result.Result.{Result}
use Rattle.bits.specs.Answer.{Answer}
use Rattle.bits.specs.declared.refusal.Refusal.{Refusal}
use Rattle.text.specs.Entry.{PutsWhole}
use Rattle.text.specs.declared.pen.Pen.{Pen}
use Rattle.text.proofs.Unique.{whole-unique}
use Rattle.tally.specs.declared.Totals.{Totals}
use Rattle.listing_text.specs.Listing.{listing}

module _ (old new new' : Pen) (r r' : Result (Unit {0}) Refusal) (a : Answer ℕ) (t : Totals) where
  pub put-listing-unique :
      PutsWhole old new r (listing a t) → PutsWhole old new' r' (listing a t) → (new.out.now ≡ new'.out.now) × (new.to ≡ new'.to) × (r ≡ r')
  put-listing-unique = whole-unique old new new' r r' (listing a t)
