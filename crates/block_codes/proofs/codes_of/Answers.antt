-- `block_codes::codes_of` meets its contract. Assumes nothing.
use mathlib.Core.Path.{◌≡◌, sym, ◌∙◌}
use mathlib.Core.Bool.{true}
use mathlib.Core.List.{List, [], ◌∷◌}
use Prim.Native.Nat.{ℕ, suc, ◌+◌, ◌<◌}
use native.Mathlib.Numerals.{add-one}
use native.Mathlib.Omega.{arith}
use lib.ListN.{length, get_or, drop, drop_of_length-le}
use lib.Seq.{drop-cons}
use Rattle.bits.specs.Bits.{are_bits}
use Rattle.block_codes.specs.Codes.{codes_of, extra_at}
use borrow.Author.Rules.{rules}
use Rattle.block_codes.proofs.codes_of.Goals as goal

-- a list's last two elements
last-two : (l : List ℕ) (n : ℕ) → length l ≡ n + 2 → drop n l ≡ get_or l n 0 ∷ get_or l (n + 1) 0 ∷ []
last-two l n e =
    let one : n < length l = omega arith in
    let two : suc n < length l = omega arith in
    drop-cons l n 0 one ∙ rw (drop-cons l (suc n) 0 two, drop_of_length-le l {i = suc (suc n)} (omega arith), ← add-one n)

pub returns : goal.returns
unfolding codes_of extra_at
returns c =
    let allowed : are_bits c.args.bits ≡ true = sym c.are_bits.ensures ∙ c.if-not-are_bits.false in
    let bits = c.args.bits in
    let size : length bits ≡ 77 = search rules in
    rw (allowed, c.all_codes.ensures, last-two bits 75 (omega arith))
