-- `frame::sync_errors` meets its contract: the wrong bits counted so far. Assumes nothing.
use mathlib.Core.Path.{◌≡◌, refl, sym, ◌∙◌}
use Prim.Native.Nat.{ℕ, ◌+◌, ◌%◌, ◌<◌}
use native.Mathlib.Omega.{arith}
use lib.ListN.{get_or}
use Rattle.bits.specs.Table.{tabulate}
use Rattle.bits.specs.Bits.{bit_at, ones}
use Rattle.bits.proofs.Bits.{bit_at-below, bit_below}
use Rattle.bits.proofs.Ones.{ones-more}
use Rattle.frame.specs.Read.{wrong_sync}
use Rattle.frame.proofs.Sync.{below-sync, wrong-counted}
use Rattle.code.specs.Words.{distance}
use Rattle.frame.specs.Frame.{sync_word}
use borrow.Author.Rules.{rules}
use Rattle.frame.proofs.sync_errors.Goals as goal

pub loop-k-init : goal.loop-k-init
unfolding tabulate ones
loop-k-init c = (search rules, search rules, refl)

pub overflow_add-wrong : goal.overflow_add-wrong
overflow_add-wrong c =
    let sync-bit : (k : ℕ) → get_or c.sync_of-sync.result k 0 < 2 = λ k. rw c.sync_of-sync.ensures (bit_below (sync_word c.args.letter) k (below-sync c.args.letter)) in
    let sync = sync-bit c.loop-k.k in
    let bit = bit_at-below c.args.bytes.now c.loop-k.k in
    omega (arith, c.bit_of.ensures)

pub loop-k-preserved : goal.loop-k-preserved
loop-k-preserved c =
    let f : ℕ → ℕ = λ k. (get_or c.sync_of-sync.result k 0 + bit_at c.args.bytes.now k) % 2 in
    let bit : c.bit_of.result ≡ bit_at c.args.bytes.now c.loop-k.k = c.bit_of.ensures in
    let more = ones-more c.loop-k.k f in
    (search rules, omega arith, rw bit (omega (arith, more, c.loop-k.invariant.2)))

pub returns : goal.returns
unfolding wrong_sync distance
returns c =
    let bytes = c.args.bytes.now in
    let sync : c.sync_of-sync.result ≡ sync_word c.args.letter = c.sync_of-sync.ensures in
    let end : c.loop-k.k ≡ 11 = omega arith in
    (rw (end, sync) at c.loop-k.invariant.2) ∙ sym (wrong-counted c.args.letter bytes)
