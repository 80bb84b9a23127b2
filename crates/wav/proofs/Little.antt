-- Laws of numbers in bytes, the lowest first, and of sizes.
--     two-little, four-little     two bytes and four, as `to_le_bytes` gives them
--     length-little               how many bytes
--     number-two, number-four     they make the number again
--     length-header               a header has 44 bytes
--     capped-pairs                a number of pairs that is capped first gives the same sizes
-- Assumes nothing.
use mathlib.Core.Path.{◌≡◌, refl, sym, ap, subst}
use Prim.Native.Nat.{ℕ, zero, suc, ◌+◌, ◌*◌, ◌/◌, ◌<◌, ◌≤◌}
use native.Mathlib.Nat.{div-div-eq-div-mul}
use native.Mathlib.Omega.{arith}
use lib.Dec.{eqb}
use lib.ListN.{length}
use borrow.Author.Tests.{eqb-true, eqb-false}
use Rattle.std.specs.Int.{to_le_bytes, w16, w32}
use Rattle.bits.proofs.Tests.{either_way}
use Rattle.bits.specs.Letters.{letters}
use Rattle.wav.specs.Header.{little, number, capped, format, fields, header}

pub two-little : (x : ℕ) → to_le_bytes w16 x ≡ little 2 x
unfolding little
two-little x = refl

pub four-little : (x : ℕ) → to_le_bytes w32 x ≡ little 4 x
unfolding little
four-little x = rw (div-div-eq-div-mul, div-div-eq-div-mul) refl

pub length-little : (n x : ℕ) → length (little n x) ≡ n
unfolding little
length-little zero x = refl
length-little (suc n) x = ap suc (length-little n (x / 256))

pub length-header : (b n : ℕ) → length (header b n) ≡ 44
unfolding header fields format little letters
length-header b n = refl

pub number-two : (x : ℕ) → x < 65536 → number (little 2 x) ≡ x
unfolding little number
number-two x h = omega arith

pub number-four : (x : ℕ) → x < 4294967296 → number (little 4 x) ≡ x
unfolding little number
number-four x h = omega arith

-- by the two widths
two-widths : (P : ℕ → Type 0) → P 1 → P 2 → (b : ℕ) → 1 ≤ b → b ≤ 2 → P b
two-widths P one two b some most =
    either_way (eqb b 1) (λ e. subst P (sym (eqb-true b 1 e)) one)
    (λ e. let other = eqb-false b 1 e in let e2 : b ≡ 2 = omega (arith, some, most, other) in subst P (sym e2) two)

pub capped-pairs :
    (p b : ℕ) → 1 ≤ b → b ≤ 2 → (capped (36 + capped p * (2 * b)) ≡ capped (36 + p * (2 * b))) × (capped (capped p * (2 * b)) ≡ capped (p * (2 * b)))
capped-pairs p =
    two-widths (λ (b : ℕ). (capped (36 + capped p * (2 * b)) ≡ capped (36 + p * (2 * b))) × (capped (capped p * (2 * b)) ≡ capped (p * (2 * b))))
    (omega arith, omega arith)
    (omega arith, omega arith)
