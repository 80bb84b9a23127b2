-- `scale::write` meets its contract. Assumes nothing.
use mathlib.Core.Path.{◌≡◌, ap, ap₂, ◌∙◌}
use Prim.Native.Nat.{◌+◌, ◌*◌, ◌/◌, ◌%◌}
use native.Mathlib.Omega.{arith}
use borrow.Author.Tests.{le-leb}
use Rattle.std.specs.declared.result.Result.TheVariants.{Ok}
use Rattle.bits.specs.Digits.{digits}
use Rattle.scale.specs.Word.{scale_word, written_scale}
use Rattle.scale.proofs.Word.{word-digits}
use Rattle.scale.proofs.write.Goals as goal

pub returns : goal.returns
unfolding written_scale
returns c =
    let s = c.args in
    let n = s.left * 8 + s.right in
    let left : n / 8 ≡ s.left = omega arith in
    let right : n % 8 ≡ s.right = omega arith in
    let word : c.bits_of.result ≡ scale_word s.left s.right =
    c.bits_of.ensures ∙ ap (digits 2 14) c.word_of.ensures ∙ word-digits n ∙ ap₂ scale_word left right in
    rw (le-leb s.left 7 c.if-left-gt7.false, le-leb s.right 7 c.if-right-gt7.false) (ap Ok word)
