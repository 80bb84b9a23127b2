-- Any two results that meet a promise are the same. Every public function that puts something promises one equation of a page, so one law says it of
-- all, `put-unique`, and of a pen `pen-unique`; of the entry points that stand on them, `entered-unique` and `whole-unique`; of `within`,
-- `within-unique`.
-- Assumes nothing.
use mathlib.Core.Path.{◌≡◌, refl, sym, ap}
use mathlib.Core.List.{List}
use Prim.Native.Nat.{ℕ}
use Rattle.std.specs.declared.result.Result.{Result}
use Rattle.std.specs.declared.result.Result.TheVariants.{Ok, Err}
use Rattle.bits.specs.Refused.{number_in}
use Rattle.bits.specs.declared.refusal.Refusal.{Refusal}
use Rattle.bits.proofs.Refused.{not_zero, number-same}
use Rattle.bits.proofs.Unique.{same}
use Rattle.text.specs.Page.{Page, page}
use Rattle.text.specs.Pens.{on, Puts}
use Rattle.text.specs.Entry.{Entered, placed_within, entered, entered_text, PutsWhole}
use Rattle.text.specs.declared.pen.Pen.{Pen}

pub put-unique : (out out' : List ℕ) (r r' : ℕ) (p : Page) → page out r ≡ p → page out' r' ≡ p → (out ≡ out') × (r ≡ r')
put-unique out out' r r' p e e' = let s = same e e' in (ap (λ (q : Page). q.bytes) s, ap (λ (q : Page). q.place) s)

pub pen-unique : (old new new' : Pen) (s : List ℕ) → Puts old new s → Puts old new' s → (new.out.now ≡ new'.out.now) × (new.to ≡ new'.to)
pen-unique old new new' s h h' = put-unique _ _ _ _ _ h.told h'.told

pub answered : (r r' : Result (Unit {0}) Refusal) → number_in r ≡ number_in r' → r ≡ r'
answered (Ok x) (Ok y) e = refl
answered (Ok x) (Err r) e = absurd (not_zero r (sym e))
answered (Err r) (Ok y) e = absurd (not_zero r e)
answered (Err r) (Err r') e = ap Err (number-same r r' e)

pub entered-unique :
    (p p' : Page) (r r' : Result (Unit {0}) Refusal) (a : Entered) → entered r p ≡ a → entered r' p' ≡ a → (p ≡ p') × (r ≡ r')
entered-unique p p' r r' a e e' =
    let s = same e e' in
    (ap (λ (x : Entered). x.page) s, answered r r' (ap (λ (x : Entered). x.number) s))

pub whole-unique :
    (old new new' : Pen) (r r' : Result (Unit {0}) Refusal) (s : List ℕ) → PutsWhole old new r s → PutsWhole old new' r' s →
    (new.out.now ≡ new'.out.now) × (new.to ≡ new'.to) × (r ≡ r')
whole-unique old new new' r r' s h h' =
    let e = entered-unique (on new) (on new') r r' (entered_text (on old) s) h.told h'.told in
    (ap (λ (p : Page). p.bytes) e.0, ap (λ (p : Page). p.place) e.0, e.1)

pub within-unique : (r r' : Result ℕ Refusal) (n end : ℕ) → r ≡ placed_within n end → r' ≡ placed_within n end → r ≡ r'
within-unique r r' n end = same
