-- `type_lines::noted_byte` meets its contract. Assumes nothing.
use mathlib.Core.Path.{refl, sym, ◌∙◌}
use Rattle.type_lines.specs.Types.{byte_noted}
use Rattle.type_lines.proofs.Heard.{heard, unheard}
use Rattle.type_lines.proofs.noted_byte.Goals as goal

pub returns-in-Ok : goal.returns-in-Ok
unfolding byte_noted
returns-in-Ok c = let h = heard c.args.new _ (rw c.in-Ok.is at c.read.ensures) in rw h.0 refl

pub returns-in-Err : goal.returns-in-Err
unfolding byte_noted
returns-in-Err c = rw (unheard c.args.new c.read.result (λ p e. let clash = sym c.in-Err.is ∙ e in cc) c.read.ensures) refl
