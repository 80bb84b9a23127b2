-- `nearest::number_from` meets its contract: the sum is the number that the bits so far make. Assumes nothing.
use mathlib.Core.Path.{◌≡◌, refl, sym, ap, ap₂, ◌∙◌}
use mathlib.Core.List.{List}
use Prim.Native.Nat.{ℕ, ◌+◌, ◌*◌, ◌%◌, ◌^◌, ◌<◌, ◌≤◌}
use native.Mathlib.Nat.{lt_of_lt_of_le}
use native.Mathlib.Omega.{arith}
use lib.ListN.{get_or}
use lib.Pow.{pow_mono}
use Rattle.bits.specs.Table.{tabulate}
use Rattle.bits.specs.Digits.{value}
use Rattle.nearest.specs.Search.{bits_from}
use Rattle.nearest.proofs.Numbers.{number_small, number_more}
use borrow.Author.Rules.{rules}
use Rattle.nearest.proofs.number_from.Goals as goal

-- a sum of at most 42 bits has room
room : (bits : List ℕ) (at n sum : ℕ) → n ≤ 42 → sum ≡ value 2 (bits_from bits at n) → sum < 2 ^ 42
room bits at n sum h e = rw e (lt_of_lt_of_le (number_small bits at n) (pow_mono h))

pub loop-j-init : goal.loop-j-init
unfolding value tabulate bits_from
loop-j-init c = (search rules, refl)

pub overflow_mul-sum : goal.overflow_mul-sum
overflow_mul-sum c =
    let h = room c.args.bits.now c.args.at c.loop-j.j c.loop-j.sum (omega (arith, c.loop-j.invariant.0, c.requires.1)) c.loop-j.invariant.1 in search rules

pub overflow_add-sum : goal.overflow_add-sum
overflow_add-sum c =
    let h = room c.args.bits.now c.args.at c.loop-j.j c.loop-j.sum (omega (arith, c.loop-j.invariant.0, c.requires.1)) c.loop-j.invariant.1 in search rules

pub loop-j-preserved : goal.loop-j-preserved
loop-j-preserved c =
    let l = c.loop-j in
    let given = c.args in
    let bit : c.from.result ≡ get_or given.bits.now (given.at + l.j) 0 % 2 = c.from.ensures ∙ ap (λ (x : ℕ). x % 2) c.byte_of.ensures in
    (search rules, ap₂ (λ (x y : ℕ). x * 2 + y) l.invariant.1 bit ∙ sym (number_more given.bits.now given.at l.j))

pub returns : goal.returns
returns c =
    let end : c.loop-j.j ≡ c.args.n = omega (arith, c.loop-j.invariant.0) in
    rw end at c.loop-j.invariant.1
