-- The low bits of a code that a factor above 2 leaves unused (document 01, "Samples").
--     low-zero          what a multiple of p leaves over a multiple of p has no remainder by p
--     unused-zero       in writing they are 0
--     shr-between       a multiple of p and less than p more is divided as the multiple
--     unused-ignored    in reading they are ignored, whatever they are
-- Assumes nothing.
use mathlib.Core.Path.{◌≡◌, sym, ap, ◌∙◌, subst}
use mathlib.Core.Bool.{true}
use Prim.Native.Nat.{ℕ, suc, ◌+◌, ◌-◌, ◌*◌, ◌/◌, ◌%◌, ◌^◌, ◌<◌, ◌≤◌}
use native.Mathlib.Nat.{mod-lt, mod-eq_of_lt, mod-mod_of_dvd, dvd-mul_left, mul-mod_left, mul-add-mod_self_left, add-mul, one-mul, mul-pos, div-add-mod', div-lt_iff_lt-mul, div-eq_of_lt-le, mul_comm}
use native.Mathlib.Omega.{arith}
use lib.Dec.{ltb}
use lib.ListN.{drop, replicate}
use lib.IntN.{ℤ, pos, negsuc, ◌*ℤ◌, ◌+ℤ◌}
use lib.Signed.{shr_z}
use lib.Pow.{pow_pos}
use borrow.Author.Tests.{lt-ltb}
use Rattle.bits.specs.Digits.{digits}
use Rattle.bits.proofs.Digits.{drop-digits, digits_low, digits-zero}
use Rattle.sample.specs.Signed.{mod_z}
use Rattle.sample.specs.Sample.{code_of, sample_of}
use Rattle.sample.specs.Pattern.{pattern_of, code_bits}
use Rattle.sample.proofs.Signed.{neg-mul}
use Rattle.sample.proofs.Sample.{pow-split, code_up, sample-down}

module _ (q k : ℕ) (all : 0 < q) where
  -- what is left of one place less than a multiple
  behind : (r : ℕ) → r < q * suc k → r % suc k ≡ k → (q * suc k - 1 - r) % suc k ≡ 0
  behind r l e =
      let t : ℕ = r / suc k in
      let whole : t * suc k + r % suc k ≡ r = div-add-mod' r (suc k) in
      let below : t < q = (div-lt_iff_lt-mul {k = suc k} {x = r} {y = q} (omega arith)).1 l in
      let d : ℕ = q - 1 - t in
      let sum : q * suc k ≡ d * suc k + t * suc k + 1 * suc k = ap (λ (n : ℕ). n * suc k) (omega arith) ∙ add-mul (d + t) 1 (suc k) ∙ ap (λ (n : ℕ). n + 1 * suc k) (add-mul d t (suc k)) in
      let one : 1 * suc k ≡ suc k = one-mul (suc k) in
      let last : q * suc k - 1 - r ≡ d * suc k = omega arith in
      ap (λ (n : ℕ). n % suc k) last ∙ mul-mod_left d (suc k)

  pub low-zero : (z : ℤ) → mod_z (z *ℤ pos (suc k)) (q * suc k) % suc k ≡ 0
  unfolding mod_z
  low-zero (pos a) = mod-mod_of_dvd (suc k) (a * suc k) (dvd-mul_left (suc k) q) ∙ mul-mod_left a (suc k)
  low-zero (negsuc a) =
      let n : ℕ = a * suc k + k in
      let left : n % (q * suc k) % suc k ≡ k =
      mod-mod_of_dvd (suc k) n (dvd-mul_left (suc k) q) ∙ ap (λ (m : ℕ). (m + k) % suc k) (mul_comm a (suc k)) ∙ mul-add-mod_self_left (suc k) a k ∙ mod-eq_of_lt (omega arith) in
      let some : 0 < q * suc k = mul-pos all (omega arith) in
      rw (neg-mul a k) (behind (n % (q * suc k)) (mod-lt n some) left)

-- a code has 14 bits, of which 16 - s are used at a factor s from 2 on
pub unused-zero : (x : ℤ) (s : ℕ) → 2 ≤ s → s ≤ 7 → drop (16 - s) (code_bits (code_of x s)) ≡ replicate (s - 2) 0
unfolding code_bits pattern_of
unused-zero x s l u =
    let k : ℕ = s - 2 in
    let m : ℕ = 2 ^ k - 1 in
    let power : 0 < 2 ^ k = pow_pos k in
    let step : suc m ≡ 2 ^ k = omega arith in
    let size : 16384 ≡ 2 ^ (14 - k) * 2 ^ k = pow-split 14 k (omega arith) in
    let low : mod_z (x *ℤ pos (2 ^ k)) 16384 % 2 ^ k ≡ 0 =
    ap (λ (n : ℕ). mod_z (x *ℤ pos (2 ^ k)) n % 2 ^ k) size ∙ subst (λ (n : ℕ). mod_z (x *ℤ pos n) (2 ^ (14 - k) * n) % n ≡ 0) step (low-zero (2 ^ (14 - k)) m (pow_pos (14 - k)) x) in
    let places : 14 ≡ 16 - s + k = omega arith in
    ap (λ (c : ℤ). drop (16 - s) (digits 2 14 (mod_z c 16384))) (code_up x s l)
    ∙ ap (λ (n : ℕ). drop (16 - s) (digits 2 n (mod_z (x *ℤ pos (2 ^ k)) 16384))) places
    ∙ drop-digits 2 (16 - s) k (mod_z (x *ℤ pos (2 ^ k)) 16384)
    ∙ sym (digits_low k (mod_z (x *ℤ pos (2 ^ k)) 16384)) ∙ ap (digits 2 k) low ∙ digits-zero k

pub shr-between : (x : ℤ) (k j : ℕ) → j < suc k → shr_z (x *ℤ pos (suc k) +ℤ pos j) (suc k) ≡ x
shr-between (pos a) k j l = ap pos (div-eq_of_lt-le (suc k) {m = a * suc k + j} (omega arith) (rw (add-mul a 1 (suc k), one-mul) (omega arith)))
shr-between (negsuc a) k j l =
    let less : ltb j (suc (a * suc k + k)) ≡ true = lt-ltb j (suc (a * suc k + k)) (omega arith) in
    rw (neg-mul a k, less)
    (ap negsuc (div-eq_of_lt-le (suc k) {m = suc (a * suc k + k) - suc j} (omega arith) (rw (add-mul a 1 (suc k), one-mul) (omega arith))))

pub unused-ignored : (x : ℤ) (s j : ℕ) → 2 ≤ s → j < 2 ^ (s - 2) → sample_of (code_of x s +ℤ pos j) s ≡ x
unused-ignored x s j l h =
    let k : ℕ = 2 ^ (s - 2) - 1 in
    let step : suc k ≡ 2 ^ (s - 2) = omega arith in
    sample-down (code_of x s +ℤ pos j) s l ∙ ap (λ (c : ℤ). shr_z (c +ℤ pos j) (2 ^ (s - 2))) (code_up x s l)
    ∙ subst (λ (n : ℕ). shr_z (x *ℤ pos n +ℤ pos j) n ≡ x) step (shr-between x k j (omega arith))
