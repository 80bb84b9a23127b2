-- `sound::sound_of` meets its contract. Assumes nothing.
use mathlib.Core.Path.{ap, ◌∙◌}
use native.Mathlib.Omega.{arith}
use lib.IntN.{ℤ}
use Rattle.sample.specs.Sample.{sample_answer}
use mir.Syntax.{w16}
use mir.ValLaws.{to_z-of_z}
use Rattle.sound.proofs.Samples.{sound-answer}
use Rattle.sound.proofs.sound_of.Goals as goal

pub returns : goal.returns
returns c =
    let a = c.args in
    to_z-of_z w16 c.unwrap_or.result (record { sfits = c.unwrap_or.type_inv })
    ∙ c.unwrap_or.ensures
    ∙ sound-answer a.code a.factor c.requires c.sample_of.result
    (c.sample_of.ensures ∙ ap (λ (z : ℤ). sample_answer z a.factor) (to_z-of_z w16 a.code (record { sfits = omega arith })))
