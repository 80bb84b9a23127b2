-- `block_writer::sound_bit` meets its contract. Assumes nothing.
use mathlib.Core.Path.{◌≡◌, ap, ◌∙◌}
use Prim.Native.Nat.{◌%◌, ◌/◌}
use native.Mathlib.Omega.{arith}
use lib.IntN.{ℤ, pos}
use lib.ListN.{length, get_or}
use mir.Syntax.{w16}
use mir.ValLaws.{to_z-of_z}
use Rattle.sample.specs.Pattern.{code_bits}
use Rattle.block.proofs.Places.{sound-at}
use borrow.Author.Rules.{rules}
use Rattle.block_writer.proofs.sound_bit.Goals as goal

pub returns : goal.returns
returns c =
    let codes = c.args.codes.now in
    let four : length codes ≡ 4 = search rules in
    let code = get_or codes (c.args.j / 11) (pos 0) in
    c.code_bit.ensures
    ∙ ap (λ (z : ℤ). get_or (code_bits z) (c.args.j % 11) 0) (to_z-of_z w16 code (record { sfits = search rules }))
    ∙ sound-at codes c.args.j (omega arith)
