-- `eights::of_word` meets its contract. The loop's invariant: the upper bytes are divided. Assumes nothing.
use mathlib.Core.Path.{◌≡◌, refl, sym, ap, ◌∙◌}
use mathlib.Core.List.{List}
use Prim.Native.Nat.{ℕ, suc, ◌+◌, ◌-◌, ◌*◌, ◌/◌, ◌%◌, ◌^◌, ◌<◌}
use native.Mathlib.Nat.{div-one}
use native.Mathlib.Numerals.{add-one}
use native.Mathlib.Omega.{arith}
use lib.Pow.{shr-shr}
use borrow.Author.Rules.{rules}
use Rattle.eights.specs.Eights.{step_by, eights, word_by}
use Rattle.eights.proofs.of_word.Goals as goal

-- one byte more
turn : (t : List ℕ) (word i reg : ℕ) → i < 6 → reg ≡ eights 11 t i (word / 2 ^ (48 - 8 * i))
    → step_by 11 t reg (word / 2 ^ (40 - 8 * i) % 256) ≡ eights 11 t (i + 1) (word / 2 ^ (48 - 8 * (i + 1)))
unfolding eights
turn t word i reg h so_far =
    let more : 48 - 8 * i ≡ 40 - 8 * i + 8 = omega arith in
    let left : 40 - 8 * i ≡ 48 - 8 * suc i = omega arith in
    let byte : ℕ = word / 2 ^ (40 - 8 * i) % 256 in
    ap (λ (r : ℕ). step_by 11 t r byte) (so_far ∙ ap (eights 11 t i) (ap (λ (n : ℕ). word / 2 ^ n) more ∙ sym (shr-shr word (40 - 8 * i) 8)))
    ∙ ap (λ (n : ℕ). eights 11 t (suc i) (word / 2 ^ n)) left
    ∙ ap (λ (k : ℕ). eights 11 t k (word / 2 ^ (48 - 8 * k))) (sym (add-one i))

pub loop-i-init : goal.loop-i-init
unfolding eights
loop-i-init c = (search rules, refl)

pub loop-i-preserved : goal.loop-i-preserved
unfolding eights
loop-i-preserved c =
    let within : c.loop-i.i < 6 = search rules in
    (search rules, c.next-reg.ensures ∙ turn c.args.table.now c.args.word c.loop-i.i _ within c.loop-i.invariant.1)

pub returns : goal.returns
unfolding word_by
returns c =
    let t = c.args.table.now in
    let word = c.args.word in
    let all : c.loop-i.i ≡ 6 = search rules in
    c.loop-i.invariant.1 ∙ ap (λ (k : ℕ). eights 11 t k (word / 2 ^ (48 - 8 * k))) all ∙ ap (eights 11 t 6) (div-one word)
