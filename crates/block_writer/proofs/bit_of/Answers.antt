-- `block_writer::bit_of` meets its contract. Assumes nothing.
use mathlib.Core.Path.{◌≡◌, ap, ◌∙◌}
use mathlib.Core.List.{List}
use Prim.Native.Nat.{ℕ, ◌+◌, ◌-◌, ◌/◌, ◌%◌, ◌^◌}
use lib.IntN.{ℤ, pos}
use lib.ListN.{length, get_or}
use mir.Syntax.{w16}
use mir.ValLaws.{to_z-of_z}
use Rattle.bits.specs.Digits.{value}
use Rattle.remainder.specs.Remainder.{check_bits}
use Rattle.code.specs.Generators.{block_generator}
use Rattle.sample.specs.Pattern.{code_bits}
use Rattle.block.proofs.Places.{at-sound, at-check, at_rest, at-extra}
use borrow.Author.Rules.{rules}
use Rattle.block_writer.proofs.bit_of.Goals as goal

pub returns-then-j-lt44 : goal.returns-then-j-lt44
returns-then-j-lt44 c =
    let a = c.args in
    let four : length a.codes.now ≡ 4 = search rules in
    ap (λ (l : List ℕ). get_or l a.j 0) c.requires.sound_bits ∙ at-sound a.codes.now a.extra.now four a.j c.if-j-lt44.true

pub returns-then-j-lt63 : goal.returns-then-j-lt63
returns-then-j-lt63 c =
    let a = c.args in
    let four : length a.codes.now ≡ 4 = search rules in
    ap (λ (n : ℕ). n / 2 ^ (62 - a.j) % 2)
    (c.requires.check_bits ∙ ap (λ (l : List ℕ). value 2 (check_bits block_generator l)) c.requires.sound_bits)
    ∙ at-check a.codes.now a.extra.now four a.j c.if-j-lt44.false c.if-j-lt63.true

pub returns-then-j-lt75 : goal.returns-then-j-lt75
returns-then-j-lt75 c =
    let a = c.args in
    let four : length a.codes.now ≡ 4 = search rules in
    let code = get_or a.codes.now ((a.j - 63) / 3) (pos 0) in
    c.code_bit.ensures
    ∙ ap (λ (z : ℤ). get_or (code_bits z) (11 + (a.j - 63) % 3) 0) (to_z-of_z w16 code (record { sfits = search rules }))
    ∙ at_rest a.codes.now a.extra.now four a.j c.if-j-lt63.false c.if-j-lt75.true

pub returns-else-j-lt75 : goal.returns-else-j-lt75
returns-else-j-lt75 c =
    let a = c.args in
    let four : length a.codes.now ≡ 4 = search rules in
    at-extra a.codes.now a.extra.now four a.j c.if-j-lt75.false
