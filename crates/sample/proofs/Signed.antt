-- Laws of numbers with a sign, for any crate.
--     sub-pos, sub-neg, negsuc-sub     how a difference computes
--     minus_one, not_negative      a number with its sign, by `mag`
--     between-mag                  from -h to h - 1: `mag` is less than h
--     neg-mul, mul-mul             a product with a factor that has no sign
--     mag-mul, mag-shr-lt          the bound of a product and of a quotient
--     shr-mul, shr-shr, mul-shr    a quotient of a product, of a quotient; a product of a quotient
--     rounded-down                 a quotient is rounded down: it leaves 0 to p - 1, for a negative number too
--     shift-up, shift-down         a product divided by what divides its factor, or by a multiple of it
-- Assumes nothing.
use mathlib.Core.Path.{◌≡◌, refl, sym, ap, ◌∙◌}
use mathlib.Core.Bool.{true, false, true≢false}
use Prim.Native.Nat.{ℕ, zero, suc, ◌+◌, ◌-◌, ◌*◌, ◌/◌, ◌%◌, ◌<◌, ◌≤◌}
use native.Mathlib.Nat.{not-suc-le-zero, suc-mul, add-suc, add-mul, add_assoc, mul_assoc, mul-div_cancel, div-div-eq-div-mul, div-lt_iff_lt-mul, div-add-mod', mod-lt, mul-lt-mul_of_pos_right}
use native.Mathlib.Omega.{arith}
use lib.Arith.{digits_lt, digits_div}
use lib.Dec.{ltb}
use lib.IntN.{ℤ, pos, negsuc, neg_ℤ, ◌-ℤ◌, ◌*ℤ◌}
use lib.Signed.{mag, lt_z, shr_z}
use borrow.Author.Tests.{ltb-true, ltb-false, lt-ltb, le-ltb, le-leb, lt-leb}
use Rattle.sample.specs.Signed.{between, mod_z}
use Rattle.bits.proofs.Tests.{either_way}

pub sub-pos : (a b : ℕ) → b ≤ a → pos a -ℤ pos b ≡ pos (a - b)
sub-pos a zero h = ap pos (omega arith)
sub-pos a (suc b) h = rw (le-ltb a (suc b) h)

pub negsuc-sub : (a b : ℕ) → negsuc a -ℤ pos b ≡ negsuc (a + b)
negsuc-sub a zero = let l : 0 < suc a = omega arith in rw (lt-ltb 0 (suc a) l) (ap negsuc (omega arith))
negsuc-sub a (suc b) = ap negsuc (sym (add-suc a b))

pub sub-neg : (a b : ℕ) → a < b → pos a -ℤ pos b ≡ negsuc (b - 1 - a)
sub-neg a zero h = absurd (not-suc-le-zero h)
sub-neg a (suc b) h = rw (lt-ltb a (suc b) h) (ap negsuc (omega arith))

pub minus_one : (z : ℤ) → lt_z z (pos 0) ≡ true → negsuc 0 -ℤ z ≡ pos (mag z)
minus_one (pos a) t = absurd (not-suc-le-zero (ltb-true a 0 t))
minus_one (negsuc a) t = let l : 1 ≤ suc a = omega arith in rw (le-ltb (suc a) 1 l) (ap pos (omega arith))

pub not_negative : (z : ℤ) → lt_z z (pos 0) ≡ false → z ≡ pos (mag z)
not_negative (pos a) t = refl
not_negative (negsuc a) t = absurd (true≢false t)

pub between-mag : (h : ℕ) (z : ℤ) → 0 < h → between (neg_ℤ (pos h)) (pos (h - 1)) z ≡ ltb (mag z) h
between-mag zero z l = absurd (not-suc-le-zero l)
between-mag (suc k) (pos a) l =
    either_way (ltb a (suc k))
    (λ t. let u : a ≤ suc k - 1 = omega (arith, ltb-true a (suc k) t) in rw t (le-leb a (suc k - 1) u))
    (λ t. let u : suc k - 1 < a = omega (arith, ltb-false a (suc k) t) in rw t (lt-leb a (suc k - 1) u))
between-mag (suc k) (negsuc a) l =
    either_way (ltb a (suc k))
    (λ t. let u : a ≤ k = omega (arith, ltb-true a (suc k) t) in rw (t, le-leb a k u))
    (λ t. let u : k < a = omega (arith, ltb-false a (suc k) t) in rw (t, lt-leb a k u))

-- ---- products and quotients
pub neg-mul : (a k : ℕ) → negsuc a *ℤ pos (suc k) ≡ negsuc (a * suc k + k)
neg-mul a k =
    let e : suc a * suc k ≡ suc (a * suc k + k) = suc-mul a (suc k) ∙ add-suc (a * suc k) k in
    ap (λ (n : ℕ). neg_ℤ (pos n)) e

pub mul-mul : (z : ℤ) (p q : ℕ) → 0 < p → 0 < q → z *ℤ pos p *ℤ pos q ≡ z *ℤ pos (p * q)
mul-mul z zero q h k = absurd (not-suc-le-zero h)
mul-mul z (suc p) zero h k = absurd (not-suc-le-zero k)
mul-mul (pos a) (suc p) (suc q) h k = ap pos (mul_assoc a (suc p) (suc q))
mul-mul (negsuc a) (suc p) (suc q) h k =
    let e : suc p * suc q ≡ suc (p * suc q + q) = suc-mul p (suc q) ∙ add-suc (p * suc q) q in
    rw (neg-mul a p, neg-mul (a * suc p + p) q, e, neg-mul a (p * suc q + q), ← e)
    (ap negsuc (rw (add-mul (a * suc p) p (suc q), mul_assoc a (suc p) (suc q)) (add_assoc _ _ _)))

pub mag-mul : (z : ℤ) (p : ℕ) {h : ℕ} → 0 < p → mag z < h → mag (z *ℤ pos p) < h * p
mag-mul z zero l m = absurd (not-suc-le-zero l)
mag-mul (pos a) (suc k) l m = mul-lt-mul_of_pos_right m l
mag-mul (negsuc a) (suc k) l m = rw (neg-mul a k) (digits_lt m (omega arith))

pub mag-shr-lt : (z : ℤ) (p : ℕ) {h : ℕ} → 0 < p → mag z < h * p → mag (shr_z z p) < h
mag-shr-lt (pos a) p l m = (div-lt_iff_lt-mul l).1 m
mag-shr-lt (negsuc a) p l m = (div-lt_iff_lt-mul l).1 m

pub shr-mul : (z : ℤ) (p : ℕ) → 0 < p → shr_z (z *ℤ pos p) p ≡ z
shr-mul z zero l = absurd (not-suc-le-zero l)
shr-mul (pos a) (suc k) l = ap pos (mul-div_cancel a l)
shr-mul (negsuc a) (suc k) l = rw (neg-mul a k) (ap negsuc (digits_div a (omega arith)))

pub shr-shr : (z : ℤ) (p q : ℕ) → shr_z (shr_z z p) q ≡ shr_z z (p * q)
shr-shr (pos a) p q = ap pos (div-div-eq-div-mul a p q)
shr-shr (negsuc a) p q = ap negsuc (div-div-eq-div-mul a p q)

pub mul-shr : (z : ℤ) (p : ℕ) → 0 < p → shr_z z p *ℤ pos p ≡ z -ℤ pos (mod_z z p)
unfolding mod_z
mul-shr z zero l = absurd (not-suc-le-zero l)
mul-shr (pos a) (suc k) l =
    let e : a / suc k * suc k + a % suc k ≡ a = div-add-mod' a (suc k) in
    let r : a % suc k ≤ a = omega arith in
    rw (sub-pos a (a % suc k) r) (ap pos (omega arith))
mul-shr (negsuc a) (suc k) l =
    let e : a / suc k * suc k + a % suc k ≡ a = div-add-mod' a (suc k) in
    let r : a % suc k < suc k = mod-lt a l in
    rw (neg-mul (a / suc k) k, negsuc-sub a (suc k - 1 - a % suc k)) (ap negsuc (omega arith))

pub rounded-down : (z : ℤ) (p : ℕ) → 0 < p → (shr_z z p *ℤ pos p ≡ z -ℤ pos (mod_z z p)) × (mod_z z p < p)
unfolding mod_z
rounded-down (pos a) p l = (mul-shr (pos a) p l, mod-lt a l)
rounded-down (negsuc a) p l = (mul-shr (negsuc a) p l, omega arith)

pub shift-up : (z : ℤ) (p q r : ℕ) → 0 < p → 0 < q → r ≡ p * q → shr_z (z *ℤ pos r) q ≡ z *ℤ pos p
shift-up z p q r k l e = rw (e, ← mul-mul z p q k l) (shr-mul (z *ℤ pos p) q l)

pub shift-down : (z : ℤ) (p q r : ℕ) → 0 < p → r ≡ p * q → shr_z (z *ℤ pos p) r ≡ shr_z z q
shift-down z p q r k e = rw (e, ← shr-shr (z *ℤ pos p) p q) (ap (λ (y : ℤ). shr_z y q) (shr-mul z p k))
