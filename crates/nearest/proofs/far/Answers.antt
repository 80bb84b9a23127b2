-- `nearest::far` meets its contract. Assumes nothing.
use mathlib.Core.Path.{ap, ◌∙◌}
use Prim.Native.Nat.{ℕ, ◌≤◌}
use lib.Bits.{bit_xor}
use lib.Count as Count
use lib.ListN.{get_or}
use Rattle.nearest.proofs.Numbers.{sent-at, far-number, far-most}
use borrow.Author.Rules.{rules}
use Rattle.nearest.proofs.far.Goals as goal

pub overflow_cast-result : goal.overflow_cast-result
overflow_cast-result c =
    let given = c.args in
    let pre = c.requires in
    let few : Count.ones (bit_xor (get_or given.words.now c.from.result 0) given.number) ≤ 42 =
    rw (c.from.ensures, sent-at given.words.now given.pair pre.0 pre.2) (far-most given.pair given.number pre.1) in
    search rules

pub returns : goal.returns
returns c =
    let given = c.args in
    let pre = c.requires in
    ap (λ (w : ℕ). Count.ones (bit_xor w given.number)) (ap (λ (n : ℕ). get_or given.words.now n 0) c.from.ensures ∙ sent-at given.words.now given.pair pre.0 pre.2)
    ∙ far-number given.pair given.number pre.1
