-- `Pen::put_whole` meets its contract: the text, put where there is no room for it, says where it ends. Assumes nothing.
use mathlib.Core.Path.{◌≡◌, sym, ◌∙◌, refl}
use borrow.Author.Rules.{rules}
use Rattle.std.specs.declared.result.Result.TheVariants.{Err}
use Rattle.text.proofs.Entry.{entered-short, entered-whole}
use Rattle.text.proofs.pen.Pen.put_whole.Goals as goal

pub returns-in_err-within : goal.returns-in_err-within
returns-in_err-within g c s puts =
    let start = c.args in
    let same : c.from_residual.result ≡ Err c.in_err-within.field-0.0 = search rules in
    rw same
    (record {
      same_buffer = refl;
      told =
          entered-short start.self.now.out.now _ s start.self.now.to _ (rw c.new-trial.ensures.told at (puts _ _ c.put.ensures).told) _
          (sym c.in_err-within.was ∙ c.within.ensures);
    })

pub returns : goal.returns
returns g c s puts =
    let start = c.args in
    let whole = puts _ _ c.put-2.ensures in
    record {
      same_buffer = whole.same_buffer;
      told =
          entered-whole start.self.now.out.now _ s start.self.now.to _ (rw c.new-trial.ensures.told at (puts _ _ c.put.ensures).told) _ _ (search rules)
          (sym c.in_ok-within.was ∙ c.within.ensures) whole.told;
    }
