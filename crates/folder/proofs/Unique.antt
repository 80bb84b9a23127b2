-- Any two results that meet the promise are the same: for `put_about`, `put-about-unique`. Of `put_name`, text's `pen-unique` says it. Assumes nothing.
use mathlib.Core.Path.{◌≡◌}
use mathlib.Core.List.{List}
use Prim.Native.Nat.{ℕ}
use Rattle.std.specs.declared.result.Result.{Result}
use Rattle.bits.specs.declared.refusal.Refusal.{Refusal}
use Rattle.text.specs.Entry.{PutsWhole}
use Rattle.text.specs.declared.pen.Pen.{Pen}
use Rattle.text.proofs.Unique.{whole-unique}
use Rattle.folder.specs.Files.{about_text}

module _ (old new new' : Pen) (r r' : Result (Unit {0}) Refusal) (name : List ℕ) (radius : ℕ) (id : List ℕ) where
  pub put-about-unique :
      PutsWhole old new r (about_text name radius id) → PutsWhole old new' r' (about_text name radius id) →
      (new.out.now ≡ new'.out.now) × (new.to ≡ new'.to) × (r ≡ r')
  put-about-unique = whole-unique old new new' r r' (about_text name radius id)
