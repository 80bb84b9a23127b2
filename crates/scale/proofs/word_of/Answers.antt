-- `scale::word_of` meets its contract: six bits, and their check bits behind them. Assumes nothing.
use mathlib.Core.Path.{◌≡◌, sym, ap, ◌∙◌}
use Prim.Native.Nat.{ℕ, ◌+◌, ◌*◌, ◌<◌}
use Rattle.bits.specs.Digits.{value, digits}
use Rattle.remainder.specs.Remainder.{check_bits}
use Rattle.code.specs.Generators.{scale_generator}
use Rattle.scale.proofs.Word.{six-digits, check-small, word_number}
use borrow.Author.Rules.{rules}
use Rattle.scale.proofs.word_of.Goals as goal

pub overflow_add-result : goal.overflow_add-result
overflow_add-result c =
    let small : c.scale_check.result < 256 = rw c.scale_check.ensures (check-small _) in
    search rules

pub returns : goal.returns
returns c =
    let n = c.args.pair in
    let check : c.scale_check.result ≡ value 2 (check_bits scale_generator (digits 2 6 n)) =
    c.scale_check.ensures ∙ ap (λ l. value 2 (check_bits scale_generator l)) (six-digits n) in
    ap (λ (x : ℕ). x * 256 + c.scale_check.result) c.from.ensures ∙ ap (λ (x : ℕ). n * 256 + x) check ∙ sym (word_number n c.requires)
