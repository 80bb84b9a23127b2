-- Laws of a signed number in a fixed number of bits.
--     signed-mag, pattern-below        each lies in its range
--     signed_low, signed_high, pattern-negative, pattern-other     each by its half or sign
--     signed-pattern, pattern-signed   there and back, both ways
--     signed-inside                    what 14 bits make is a code
--     code-bits-back, bits-code-back   a code's 14 bits make the code, and 14 bits are those of their code
--     length-code_bits, below-code_bits  they are 14, and bits
--     code-sign                        the first of them is 1 exactly for a negative code
-- Assumes nothing.
use mathlib.Core.Path.{◌≡◌, refl, sym, ap, ◌∙◌}
use mathlib.Core.Bool.{true, false, true≢false, cond}
use mathlib.Core.List.{List}
use Prim.Native.Nat.{ℕ, ◌-◌, ◌*◌, ◌%◌, ◌<◌, ◌≤◌}
use native.Mathlib.Nat.{not-suc-le-zero, mod-lt, mod-eq_of_lt}
use native.Mathlib.Omega.{arith}
use lib.Dec.{ltb}
use lib.ListN.{length, get_or}
use lib.IntN.{ℤ, pos, negsuc}
use lib.Signed.{mag, lt_z}
use borrow.Author.Tests.{ltb-true, ltb-false, lt-ltb, le-ltb}
use Rattle.bits.specs.Digits.{value, digits, Below}
use Rattle.bits.proofs.Digits.{length_digits, below-digits, get_or-digits, value-below, value-digits, digits_value}
use Rattle.sample.specs.Signed.{mod_z}
use Rattle.sample.specs.Sample.{is_code}
use Rattle.sample.specs.Pattern.{signed_of, pattern_of, code_bits, bits_code}
use Rattle.bits.proofs.Tests.{either_way}
use Rattle.sample.proofs.Signed.{sub-neg}
use Rattle.sample.proofs.Sample.{code-mag}

module _ (h : ℕ) (some : 0 < h) where
  twice : 0 < h * 2
  twice = omega arith

  -- the two halves: a number below h is itself, and one from h on is negative
  pub signed_low : (u : ℕ) → u % (h * 2) < h → signed_of h u ≡ pos (u % (h * 2))
  unfolding signed_of
  signed_low u l = rw (lt-ltb (u % (h * 2)) h l)

  pub signed_high : (u : ℕ) → h ≤ u % (h * 2) → signed_of h u ≡ negsuc (h * 2 - 1 - u % (h * 2))
  unfolding signed_of
  signed_high u l = rw (le-ltb (u % (h * 2)) h l) (sub-neg (u % (h * 2)) (h * 2) (mod-lt u twice))

  pub signed-mag : (u : ℕ) → mag (signed_of h u) < h
  signed-mag u =
      let b : u % (h * 2) < h * 2 = mod-lt u twice in
      either_way (ltb (u % (h * 2)) h)
      (λ t. let l : u % (h * 2) < h = ltb-true (u % (h * 2)) h t in rw (signed_low u l) l)
      (λ t. let l : h ≤ u % (h * 2) = ltb-false (u % (h * 2)) h t in rw (signed_high u l) (omega arith))

  pub pattern-below : (z : ℤ) → pattern_of h z < h * 2
  unfolding pattern_of mod_z
  pattern-below (pos a) = mod-lt a twice
  pattern-below (negsuc a) = omega arith

  -- by the sign, as a test has it
  pub pattern-negative : (z : ℤ) → lt_z z (pos 0) ≡ true → h * 2 - 1 - mag z % (h * 2) ≡ pattern_of h z
  unfolding pattern_of mod_z
  pattern-negative (pos a) t = absurd (not-suc-le-zero (ltb-true a 0 t))
  pattern-negative (negsuc a) t = refl

  pub pattern-other : (z : ℤ) → lt_z z (pos 0) ≡ false → mag z % (h * 2) ≡ pattern_of h z
  unfolding pattern_of mod_z
  pattern-other (pos a) t = refl
  pattern-other (negsuc a) t = absurd (true≢false t)

  pub pattern-signed : (u : ℕ) → pattern_of h (signed_of h u) ≡ u % (h * 2)
  unfolding pattern_of mod_z
  pattern-signed u =
      let b : u % (h * 2) < h * 2 = mod-lt u twice in
      either_way (ltb (u % (h * 2)) h)
      (λ t. let l : u % (h * 2) < h = ltb-true (u % (h * 2)) h t in rw (signed_low u l) (mod-eq_of_lt b))
      (λ t.
      let l : h ≤ u % (h * 2) = ltb-false (u % (h * 2)) h t in
      let r : h * 2 - 1 - u % (h * 2) < h * 2 = omega arith in
      rw (signed_high u l, mod-eq_of_lt r) (omega arith))

  pub signed-pattern : (z : ℤ) → mag z < h → signed_of h (pattern_of h z) ≡ z
  unfolding pattern_of mod_z
  signed-pattern (pos a) l =
      let b : a < h * 2 = omega arith in
      let e : a % (h * 2) ≡ a = mod-eq_of_lt b in
      let m : a % (h * 2) % (h * 2) ≡ a = ap (λ (n : ℕ). n % (h * 2)) e ∙ e in
      signed_low (a % (h * 2)) (omega arith) ∙ ap pos m
  signed-pattern (negsuc a) l =
      let b : a < h * 2 = omega arith in
      let e : a % (h * 2) ≡ a = mod-eq_of_lt b in
      let p : h * 2 - 1 - a % (h * 2) < h * 2 = omega arith in
      let m : (h * 2 - 1 - a % (h * 2)) % (h * 2) ≡ h * 2 - 1 - a % (h * 2) = mod-eq_of_lt p in
      signed_high (h * 2 - 1 - a % (h * 2)) (omega arith) ∙ ap negsuc (omega arith)

-- ---- the 14 bits of a code
pub signed-inside : (u : ℕ) → is_code (signed_of 8192 u) ≡ true
signed-inside u = code-mag (signed_of 8192 u) ∙ lt-ltb (mag (signed_of 8192 u)) 8192 (signed-mag 8192 (omega arith) u)

in-range : (c : ℤ) → is_code c ≡ true → mag c < 8192
in-range c h = ltb-true (mag c) 8192 (sym (code-mag c) ∙ h)

pub length-code_bits : (c : ℤ) → length (code_bits c) ≡ 14
unfolding code_bits
length-code_bits c = length_digits 2 14 (pattern_of 8192 c)

pub below-code_bits : (c : ℤ) → Below 2 (code_bits c)
unfolding code_bits
below-code_bits c = below-digits 2 14 (pattern_of 8192 c) (omega arith)

pub code-bits-back : (c : ℤ) → is_code c ≡ true → bits_code (code_bits c) ≡ c
unfolding code_bits bits_code
code-bits-back c h =
    ap (signed_of 8192) (value-digits 2 14 (pattern_of 8192 c) (omega arith) ∙ mod-eq_of_lt (pattern-below 8192 (omega arith) c))
    ∙ signed-pattern 8192 (omega arith) c (in-range c h)

pub bits-code-back : (bits : List ℕ) → Below 2 bits → length bits ≡ 14 → code_bits (bits_code bits) ≡ bits
unfolding code_bits bits_code
bits-code-back bits h e =
    let b : value 2 bits < 16384 = rw e at (value-below 2 bits h) in
    ap (digits 2 14) (pattern-signed 8192 (omega arith) (value 2 bits) ∙ mod-eq_of_lt b) ∙ digits_value 2 14 bits h e

pub code-sign : (c : ℤ) → is_code c ≡ true → get_or (code_bits c) 0 0 ≡ cond (lt_z c (pos 0)) 1 0
unfolding code_bits pattern_of mod_z
code-sign (pos a) h =
    let l : a < 8192 = in-range (pos a) h in
    let z : ltb a 0 ≡ false = le-ltb a 0 (omega arith) in
    get_or-digits 2 14 (a % 16384) 0 (omega arith) ∙ rw z (omega arith)
code-sign (negsuc a) h =
    let l : a < 8192 = in-range (negsuc a) h in
    get_or-digits 2 14 (16384 - 1 - a % 16384) 0 (omega arith) ∙ omega arith
