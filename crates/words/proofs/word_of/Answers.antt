-- `words::word_of` meets its contract: the number that the bits so far make. Assumes nothing.
use mathlib.Core.Path.{◌≡◌, ap, ◌∙◌}
use Prim.Native.Nat.{ℕ, ◌+◌, ◌*◌, ◌/◌}
use native.Mathlib.Omega.{arith}
use lib.Pow.{pow_mono}
use borrow.Author.Rules.{rules}
use Rattle.bits.specs.Table.{tabulate}
use Rattle.bits.specs.Digits.{value}
use Rattle.words.specs.Words.{word_of}
use Rattle.words.proofs.Words.{digit, first-seven, eight-more, word_below}
use Rattle.words.proofs.word_of.Goals as goal

pub loop-i-init : goal.loop-i-init
loop-i-init c =
    let bits = c.args.bits in
    let first = c.from-word.ensures ∙ ap (λ (b : ℕ). b / 2) c.byte_from.ensures ∙ first-seven bits in
    (search rules, word_below bits 7 c.from-word.result first, first)

pub overflow_mul-word : goal.overflow_mul-word
overflow_mul-word c = let room = pow_mono {i = 7 + 8 * c.loop-i.i} {j = 55} (omega arith) in search rules

pub overflow_add-word : goal.overflow_add-word
overflow_add-word c =
    let room = pow_mono {i = 7 + 8 * c.loop-i.i} {j = 55} (omega arith) in
    search rules

pub loop-i-preserved : goal.loop-i-preserved
loop-i-preserved c =
    let bits = c.args.bits in
    let i = c.loop-i.i in
    let word = c.loop-i.word in
    let next : 7 + 8 * i + 8 ≡ 7 + 8 * (i + 1) = omega arith in
    let more =
    ap (λ (b : ℕ). word * 256 + b) (c.from.ensures ∙ c.byte_from-in-loop-i.ensures)
    ∙ eight-more bits (7 + 8 * i) word c.loop-i.invariant.2 ∙ ap (λ (n : ℕ). value 2 (tabulate n (digit bits))) next in
    (search rules, word_below bits (7 + 8 * (i + 1)) (word * 256 + c.from.result) more, more)

pub returns : goal.returns
unfolding word_of
returns c =
    let bits = c.args.bits in
    let all : 7 + 8 * c.loop-i.i ≡ 63 = search rules in
    c.loop-i.invariant.2 ∙ ap (λ (n : ℕ). value 2 (tabulate n (digit bits))) all
