-- `code::scale_check` meets its contract: the number's digits are the generator's coefficients. Assumes nothing.
use mathlib.Core.Path.{◌∙◌}
use native.Mathlib.Omega.{arith}
use Rattle.remainder.proofs.Register.{check-number}
use Rattle.code.specs.Generators.{scale_generator}
use Rattle.code.proofs.Numbers.{scale-number}
use Rattle.code.proofs.scale_check.Goals as goal

pub returns : goal.returns
returns c = c.check_of.ensures ∙ check-number 8 209 scale_generator (omega arith) scale-number _
