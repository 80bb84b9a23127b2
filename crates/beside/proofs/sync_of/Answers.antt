-- `beside::sync_of` meets its contract. Assumes nothing.
use mathlib.Core.Path.{◌≡◌, sym, ◌∙◌}
use Prim.Native.Nat.{◌+◌}
use native.Mathlib.Omega.{arith}
use lib.ListN.{length, get_or, drop, length-drop}
use lib.Seq.{get_or-drop}
use Rattle.bits.proofs.Made.{made}
use Rattle.bits.proofs.Table.{tab-ext, tab-get_or}
use Rattle.beside.specs.Beside.{sync_of}
use borrow.Author.Rules.{rules}
use Rattle.beside.proofs.sync_of.Goals as goal

pub returns : goal.returns
unfolding sync_of
returns c =
    let bits = c.args.bits in
    let size : length bits ≡ 64 = search rules in
    made _ (λ j. get_or bits (48 + j) 0) _ 16 _ 0 c.from_fn.ensures.items (λ j y q h k. search rules)
    ∙ tab-ext 16 (λ j. get_or bits (48 + j) 0) (λ j. get_or (drop 48 bits) j 0) (λ j h. sym (get_or-drop 48 bits j 0))
    ∙ sym (tab-get_or 16 (drop 48 bits) 0 (length-drop 48 bits ∙ omega arith))
