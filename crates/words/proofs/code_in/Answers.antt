-- `words::code_in` meets its contract. Assumes nothing.
use mathlib.Core.Path.{ap, ◌∙◌}
use Prim.Native.Nat.{ℕ, ◌+◌, ◌-◌, ◌*◌, ◌/◌, ◌%◌, ◌^◌}
use mir.Syntax.{w16}
use mir.ValLaws.{to_z-of_z}
use Rattle.sample.specs.Pattern.{signed_of}
use Rattle.words.specs.Words.{code_in}
use Rattle.words.proofs.code_in.Goals as goal

pub returns : goal.returns
unfolding code_in
returns c =
    let a = c.args in
    to_z-of_z w16 c.signed_of.result (record { sfits = c.signed_of.type_inv }) ∙ c.signed_of.ensures
    ∙ ap (λ (l : ℕ). signed_of 8192 (a.word / 2 ^ (52 - 11 * a.channel) % 2 ^ 11 * 8 + l)) c.lower_in.ensures.0
