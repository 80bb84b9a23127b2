-- `beside::six_of` meets its contract. Assumes nothing.
use mathlib.Core.Path.{◌≡◌, ◌∙◌}
use Prim.Native.Nat.{◌*◌}
use lib.ListN.{length, take}
use Rattle.bits.specs.Bits.{byte_at}
use Rattle.bits.proofs.Made.{made}
use Rattle.bits.proofs.Table.{tab-ext}
use Rattle.beside.proofs.Carried.{byte-there, six-there}
use borrow.Author.Rules.{rules}
use Rattle.beside.proofs.six_of.Goals as goal

pub returns : goal.returns
returns c =
    let bits = c.args.bits in
    let size : length bits ≡ 64 = search rules in
    made _ (λ i. byte_at bits (8 * i)) _ 6 _ 0 c.from_fn.ensures.items (λ i y q h k. search rules)
    ∙ tab-ext 6 (λ i. byte_at bits (8 * i)) (λ i. byte_at (take 48 bits) (8 * i)) (λ i h. byte-there bits i h) ∙ six-there bits size
