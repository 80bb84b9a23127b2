-- `name_lines::put_labels` meets its contract. Assumes nothing.
use mathlib.Core.Path.{◌≡◌, refl, ap, ◌∙◌}
use mathlib.Core.List.{List}
use Prim.Native.Nat.{ℕ}
use borrow.Author.Rules.{rules}
use Rattle.std.specs.Option.{option_or}
use Rattle.std.specs.declared.option.Option.{Option}
use Rattle.std.specs.declared.option.Option.TheVariants.{Some, None}
use Rattle.std.specs.declared.result.Result.TheVariants.{Err}
use Rattle.name_lines.specs.declared.Labels.{Labels}
use Rattle.name_lines.specs.Names.{label_text, noted_after}
use Rattle.name_lines.proofs.put_labels.Goals as goal

newest : (o : Labels) (labels : Option (List ℕ)) → record { noted = option_or labels o.noted } ≡ noted_after o labels
unfolding noted_after
newest o None = refl
newest o (Some new) = refl

pub returns-in_err-put_whole : goal.returns-in_err-put_whole
returns-in_err-put_whole c =
    let start = c.args in
    let same : c.from_residual.result ≡ Err c.in_err-put_whole.field-0.0 = search rules in
    let whole = c.put_whole.ensures (label_text start.k start.noted.noted start.labels) (search rules) in
    rw same (record { same_buffer = whole.same_buffer; text = rw c.in_err-put_whole.was at whole.told; noted = tt })

pub returns : goal.returns
returns c =
    let start = c.args in
    let whole = c.put_whole.ensures (label_text start.k start.noted.noted start.labels) (search rules) in
    record {
      same_buffer = whole.same_buffer;
      text = rw c.in_ok-put_whole.was at whole.told;
      noted = ap (λ (l : Option (List ℕ)). record { noted = l }) c.or.ensures ∙ newest start.noted start.labels;
    }
