-- `type_lines::put_types` meets its contract. Assumes nothing.
use mathlib.Core.Path.{◌≡◌, ap, ◌∙◌}
use mathlib.Core.Bool.{Bool}
use borrow.Author.Rules.{rules}
use Rattle.std.specs.declared.result.Result.TheVariants.{Err}
use Rattle.text.specs.Pens.{on}
use Rattle.text.specs.Entry.{entered_text}
use Rattle.type_lines.specs.Types.{type_text, types_after}
use Rattle.type_lines.proofs.put_types.Goals as goal

pub returns-in_err-put_whole : goal.returns-in_err-put_whole
returns-in_err-put_whole c =
    let start = c.args in
    let o = start.noted in
    let same : c.from_residual.result ≡ Err c.in_err-put_whole.field-0.0 = search rules in
    let whole = c.put_whole.ensures (type_text c.is_told-told.result o.superframe o.bytes o.group) (search rules) in
    rw same
    (record {
      same_buffer = whole.same_buffer;
      text =
          rw c.in_err-put_whole.was at whole.told
          ∙ ap (λ (b : Bool). entered_text (on start.pen.now) (type_text b o.superframe o.bytes o.group)) c.is_told-told.ensures;
      noted = tt;
    })

pub returns : goal.returns
returns c =
    let start = c.args in
    let o = start.noted in
    let whole = c.put_whole.ensures (type_text c.is_told-told.result o.superframe o.bytes o.group) (search rules) in
    record {
      same_buffer = whole.same_buffer;
      text =
          rw c.in_ok-put_whole.was at whole.told
          ∙ ap (λ (b : Bool). entered_text (on start.pen.now) (type_text b o.superframe o.bytes o.group)) c.is_told-told.ensures;
      noted = c.after.ensures ∙ ap (λ (b : Bool). types_after o b start.k start.position start.group) c.is_told-told.ensures;
    }
