-- `block::read` meets its contract. Assumes nothing.
use mathlib.Core.Path.{◌≡◌, sym, ◌∙◌}
use mathlib.Core.Bool.{true}
use mathlib.Core.List.{List}
use Prim.Native.Nat.{ℕ}
use lib.ListN.{length}
use Rattle.bits.specs.Bits.{are_bits}
use Rattle.bits.proofs.Tests.{both_left, both_right}
use Rattle.reading.specs.Reading.{is_radius}
use Rattle.block.specs.Read.{is_readable}
use Rattle.block.proofs.Answered.{found-read, out_of_range}
use borrow.Author.Rules.{rules}
use Rattle.block.proofs.read.Goals as goal

-- where nothing is refused, the radius may be chosen and every entry is a bit
module _ (radius : ℕ) (block : List ℕ) (e : is_readable radius block ≡ true) where
  chosen : is_radius radius ≡ true
  unfolding is_readable
  chosen = both_left (is_radius radius) (are_bits block) e

  bits : are_bits block ≡ true
  unfolding is_readable
  bits = both_right (is_radius radius) (are_bits block) e

pub returns-then-not-readable : goal.returns-then-not-readable
returns-then-not-readable c = out_of_range _ _ (sym c.readable.ensures ∙ c.if-not-readable.true)

pub wrong-places-requires : goal.wrong-places-requires
wrong-places-requires c = chosen _ _ (sym c.readable.ensures ∙ c.if-not-readable.false)

pub returns : goal.returns
returns c =
    let readable : is_readable c.args.radius c.args.bits ≡ true = sym c.readable.ensures ∙ c.if-not-readable.false in
    let size : length c.args.bits ≡ 77 = search rules in
    rw c.mended.ensures
    (found-read c.args.bits size (bits _ _ readable) _ _ _ (chosen _ _ readable) c.block_remainder-remainder.ensures c.wrong-places.ensures.wrong)
