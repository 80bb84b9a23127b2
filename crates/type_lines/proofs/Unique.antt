-- Any two results that meet a promise are the same: for `put_types`, `put-types-unique`; for `Types::none`, `none-unique`. Assumes nothing.
use mathlib.Core.Path.{◌≡◌, ap}
use mathlib.Core.List.{List}
use Prim.Native.Nat.{ℕ}
use Rattle.std.specs.declared.result.Result.{Result}
use Rattle.bits.specs.declared.refusal.Refusal.{Refusal}
use Rattle.bits.proofs.Unique.{same}
use Rattle.text.specs.Entry.{Entered}
use Rattle.text.specs.Pens.{on}
use Rattle.text.specs.declared.pen.Pen.{Pen}
use Rattle.name_lines.proofs.Unique.{noted-same}
use Rattle.type_lines.specs.declared.Types.{Types}
use Rattle.type_lines.specs.Types.{no_types, tells, types_after, Typing}

module _ (o : Types) (k p t : ℕ) (g : List ℕ) (old new new' : Pen) (r r' : Result Types Refusal) where
  pub put-types-unique : Typing o k p t g old new r → Typing o k p t g old new' r' → (on new ≡ on new') × (r ≡ r')
  put-types-unique h f =
      let s = same h.text f.text in (
        ap (λ (e : Entered). e.page) s,
        noted-same (types_after o (tells o.superframe k p t g) k p g) r r' (ap (λ (e : Entered). e.number) s) h.noted f.noted,
      )

pub none-unique : (r r' : Types) → r ≡ no_types → r' ≡ no_types → r ≡ r'
none-unique r r' = same
