-- `frame_writer::joined` meets its contract. Assumes nothing.
use mathlib.Core.Path.{◌≡◌, sym, ap, ◌∙◌}
use mathlib.Core.List.{List}
use Prim.Native.Nat.{ℕ}
use native.Mathlib.Omega.{arith}
use lib.ListN.{length, get_or}
use Rattle.bits.proofs.Made.{made}
use Rattle.bits.proofs.Table.{tab-get_or}
use Rattle.frame.proofs.Parts.{parts, length-parts}
use borrow.Author.Rules.{rules}
use Rattle.frame_writer.proofs.joined.Goals as goal

pub returns : goal.returns
returns c =
    let a = c.args in
    let sync = c.sync_of-sync.result in
    let head : length sync ≡ 11 = search rules in
    let front : length a.front ≡ 154 = search rules in
    let back : length a.back ≡ 154 = search rules in
    let all : List ℕ = parts sync a.service a.front a.back in
    made _ (λ k. get_or all k 0) _ 320 _ 0 c.from_fn.ensures.items (λ k y q h x. search rules)
    ∙ sym (tab-get_or 320 all 0 (length-parts sync a.service a.front a.back head front ∙ omega arith))
    ∙ ap (λ (l : List ℕ). parts l a.service a.front a.back) c.sync_of-sync.ensures
