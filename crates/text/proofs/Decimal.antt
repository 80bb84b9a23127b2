-- Numbers as text, told two ways.
--     fewest-decimal                    the fewest digits that hold a number are the number in decimal
--     decimal-short                     a number less than 10 to a power has at most so many digits
--     signed_below, signed_above        a number with a sign, by how far it reaches from 0
-- Assumes nothing.
use mathlib.Core.Path.{◌≡◌, refl, ap, ap₂, ◌∙◌}
use mathlib.Core.Bool.{true, false, true≢false}
use mathlib.Core.List.{List, [], ◌∷◌, ◌++◌}
use Prim.Native.Nat.{ℕ, zero, suc, ◌+◌, ◌-◌, ◌/◌, ◌%◌, ◌^◌, ◌≤◌, ◌<◌}
use native.Mathlib.Nat.{not-suc-le-zero, pow-succ', mod-lt, mod-eq_of_lt}
use native.Mathlib.Omega.{arith}
use borrow.Author.Tests.{lt-ltb, le-ltb, ltb-true}
use lib.Dec.{ltb}
use lib.IntN.{ℤ, pos, negsuc, nat_abs}
use lib.ListN.{length, length-append}
use lib.Signed.{lt_z}
use Rattle.bits.proofs.Tests.{either_way}
use Rattle.io.specs.Digits.{last_digits, hex_digit_ascii, IsDigitCount}
use Rattle.text.specs.Digits.{decimal_in, decimal, signed}

glyph-digit : (d : ℕ) → d < 10 → hex_digit_ascii d ≡ 48 + d
glyph-digit d h = rw (lt-ltb d 10 h)

one-digit : (n : ℕ) → n < 10 → last_digits 10 1 n ≡ (48 + n) ∷ []
one-digit n h = ap (λ (d : ℕ). hex_digit_ascii d ∷ []) (mod-eq_of_lt h) ∙ ap (λ (g : ℕ). g ∷ []) (glyph-digit n h)

-- 10 to a power is more than the power
pow_more : (j : ℕ) → j < 10 ^ j
pow_more zero = omega arith
pow_more (suc j) = let h = pow_more j in omega (arith, h, pow-succ' 10 j)

upper : (j n : ℕ) → 1 < suc j → 10 ^ suc j ≤ n → 10 ^ (suc j - 1) ≤ n / 10
upper j n h far =
    let p = pow-succ' 10 j in
    let e : suc j - 1 ≡ j = omega arith in
    rw e (omega (arith, p, far))

fewest-in : (most k n : ℕ) → k ≤ most → IsDigitCount 10 1 n k → last_digits 10 k n ≡ decimal_in most n
unfolding decimal_in
fewest-in zero k n l f =
    let none : 1 ≤ 0 = omega (arith, f.0) in
    absurd (not-suc-le-zero none)
fewest-in (suc most) zero n l f = absurd (not-suc-le-zero f.0)
fewest-in (suc most) (suc zero) n l f =
    let h : n < 10 = f.1 in
    rw (lt-ltb n 10 h) (one-digit n h)
fewest-in (suc most) (suc (suc j)) n l f =
    let p = pow-succ' 10 j in
    let q = pow-succ' 10 (suc j) in
    let e : suc (suc j) - 1 ≡ suc j = omega arith in
    let far : 10 ^ suc j ≤ n = (rw e at f).2 (omega arith) in
    let some = pow_more j in
    let high : 10 ≤ n = omega (arith, p, far, some) in
    let rest : IsDigitCount 10 1 (n / 10) (suc j) = (omega arith, omega (arith, q, f.1), λ h. upper j n h far) in
    rw (le-ltb n 10 high)
    (ap₂ (λ (s : List ℕ) (g : ℕ). s ++ (g ∷ [])) (fewest-in most (suc j) (n / 10) (omega arith) rest) (glyph-digit (n % 10) (mod-lt n (omega arith))))

few : (k n : ℕ) → IsDigitCount 10 1 n k → k ≤ suc n
few zero n f = omega arith
few (suc zero) n f = omega arith
few (suc (suc j)) n f =
    let e : suc (suc j) - 1 ≡ suc j = omega arith in
    let far : 10 ^ suc j ≤ n = (rw e at f).2 (omega arith) in
    let h = pow_more (suc j) in
    omega (arith, far, h)

pub fewest-decimal : (k n : ℕ) → IsDigitCount 10 1 n k → last_digits 10 k n ≡ decimal n
fewest-decimal k n f = fewest-in (suc n) k n (few k n f) f

short-in : (most k n : ℕ) → n < 10 ^ suc k → length (decimal_in most n) ≤ suc k
unfolding decimal_in
short-in zero k n h = omega arith
short-in (suc most) zero n h = rw (lt-ltb n 10 h) (omega arith)
short-in (suc most) (suc k) n h =
    let q = pow-succ' 10 (suc k) in
    let rest = short-in most k (n / 10) (omega (arith, q, h)) in
    either_way (ltb n 10) (λ e. rw e (omega arith))
    (λ e. rw (e, length-append (decimal_in most (n / 10)) ((48 + n % 10) ∷ [])) (omega (arith, rest)))

pub decimal-short : (k n : ℕ) → n < 10 ^ suc k → length (decimal n) ≤ suc k
decimal-short k n h = short-in (suc n) k n h

pub signed_below : (z : ℤ) → lt_z z (pos 0) ≡ true → signed z ≡ 45 ∷ decimal (nat_abs z)
signed_below (pos n) t = absurd (not-suc-le-zero (ltb-true n 0 t))
signed_below (negsuc n) t = refl

pub signed_above : (z : ℤ) → lt_z z (pos 0) ≡ false → signed z ≡ decimal (nat_abs z)
signed_above (pos n) t = refl
signed_above (negsuc n) t = absurd (true≢false t)
