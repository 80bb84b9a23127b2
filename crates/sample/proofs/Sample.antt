-- Laws of samples and codes (document 01, "Samples").
--     pow-split                      2^m in two factors
--     half_over, power-read          2^15 over 2^s, and 2^s, as the code has them in 16 bits
--     fits-mag, code-mag             what fits, in a bound on `mag`
--     reached, reach-fits, reach-past, reach-code, reach-none     the same of what the code finds
--     grown, shrunk                  one shift for every factor: the code of x is x times 2^s over 4, the sample of c is c times 4 over 2^s
--     code_up, sample-down           from factor 2 on nothing is lost
--     round_trip                     from factor 2 on a sample comes back as it was
--     round-down                     up to factor 2 it comes back less its remainder by 2^(2-s)
--     room-code, room-sample         four times a code, and 2^s times a sample that fits, have 16 bits
--     sample-inside                  every code at a factor gives a sample that fits it
--     code_inside                    every sample that fits gives a code
-- Assumes nothing.
use mathlib.Core.Path.{◌≡◌, sym, ap, ◌∙◌}
use mathlib.Core.Bool.{true, false}
use Prim.Native.Nat.{ℕ, ◌+◌, ◌-◌, ◌*◌, ◌/◌, ◌%◌, ◌^◌, ◌<◌, ◌≤◌}
use native.Mathlib.Omega.{arith}
use lib.Dec.{leb, ltb}
use lib.Pow.{pow_pos, pow_mono, pow-add, shl-shr}
use lib.IntN.{ℤ, pos, ◌*ℤ◌, ◌-ℤ◌}
use lib.Signed.{mag, shr_z}
use mir.Syntax.{w16}
use mir.Val.{SFits, to_z, of_z}
use mir.ValLaws.{to_z_pos, to_z-of_z}
use borrow.Author.Tests.{ltb-true, lt-ltb, le-ltb, leb-true, leb-false, le-leb}
use Rattle.sample.specs.Signed.{mod_z}
use Rattle.sample.specs.Sample.{fits, is_code, code_of, sample_of}
use Rattle.bits.proofs.Tests.{either_way}
use Rattle.sample.proofs.Signed.{between-mag, mag-mul, mag-shr-lt, shr-mul, mul-shr, shift-up, shift-down}

pub pow-split : (m n : ℕ) → n ≤ m → 2 ^ m ≡ 2 ^ (m - n) * 2 ^ n
pow-split m n h = let e : m ≡ m - n + n = omega arith in ap (λ (k : ℕ). 2 ^ k) e ∙ pow-add 2 (m - n) n

pow-split' : (m n : ℕ) → n ≤ m → 2 ^ m ≡ 2 ^ n * 2 ^ (m - n)
pow-split' m n h = let e : m ≡ n + (m - n) = omega arith in ap (λ (k : ℕ). 2 ^ k) e ∙ pow-add 2 n (m - n)

pub half_over : (s : ℕ) → s ≤ 15 → 32768 / 2 ^ s ≡ 2 ^ (15 - s)
half_over s h = ap (λ (n : ℕ). n / 2 ^ s) (pow-split 15 s h) ∙ shl-shr (2 ^ (15 - s)) s

pub power-read : (s : ℕ) → s ≤ 7 → to_z w16 (1 * 2 ^ s % 2 ^ 16) ≡ pos (2 ^ s)
power-read s h =
    let l : 2 ^ s ≤ 2 ^ 7 = pow_mono {j = 7} h in
    let e : 1 * 2 ^ s % 2 ^ 16 ≡ 2 ^ s = omega arith in
    rw e (to_z_pos w16 (2 ^ s) (omega arith))

-- ---- what fits
pub fits-mag : (s : ℕ) (x : ℤ) → fits s x ≡ ltb (mag x) (2 ^ (15 - s))
unfolding fits
fits-mag s x = between-mag (2 ^ (15 - s)) x (pow_pos (15 - s))

pub code-mag : (c : ℤ) → is_code c ≡ ltb (mag c) 8192
unfolding is_code
code-mag c = between-mag 8192 c (omega arith)

-- the same of what the code finds: how far a number reaches, and 2^15 over 2^s
pub reached : (x : ℤ) (r : ℕ) → SFits w16 x → r ≡ mag (to_z w16 (of_z w16 x)) → r ≡ mag x
reached x r h e = e ∙ ap mag (to_z-of_z w16 x h)

pub reach-fits : (x : ℤ) (s r : ℕ) → s ≤ 7 → r ≡ mag x → r < 32768 / 2 ^ s → fits s x ≡ true
reach-fits x s r l e h = let half = half_over s (omega arith) in fits-mag s x ∙ lt-ltb (mag x) (2 ^ (15 - s)) (omega arith)

pub reach-past : (x : ℤ) (s r : ℕ) → s ≤ 7 → r ≡ mag x → 32768 / 2 ^ s ≤ r → fits s x ≡ false
reach-past x s r l e h = let half = half_over s (omega arith) in fits-mag s x ∙ le-ltb (mag x) (2 ^ (15 - s)) (omega arith)

pub reach-code : (c : ℤ) (r : ℕ) → r ≡ mag c → r < 8192 → is_code c ≡ true
reach-code c r e h = code-mag c ∙ lt-ltb (mag c) 8192 (omega arith)

pub reach-none : (c : ℤ) (r : ℕ) → r ≡ mag c → 8192 ≤ r → is_code c ≡ false
reach-none c r e h = code-mag c ∙ le-ltb (mag c) 8192 (omega arith)

-- ---- one shift for every factor
pub shrunk : (c : ℤ) (s : ℕ) → shr_z (c *ℤ pos 4) (2 ^ s) ≡ sample_of c s
unfolding sample_of
shrunk c s =
    either_way (leb s 2)
    (λ t. rw t (shift-up c (2 ^ (2 - s)) (2 ^ s) 4 (pow_pos (2 - s)) (pow_pos s) (pow-split 2 s (leb-true s 2 t))))
    (λ t. let l : 2 ≤ s = omega (arith, leb-false s 2 t) in rw t (shift-down c 4 (2 ^ (s - 2)) (2 ^ s) (omega arith) (pow-split' s 2 l)))

pub grown : (x : ℤ) (s : ℕ) → shr_z (x *ℤ pos (2 ^ s)) 4 ≡ code_of x s
unfolding code_of
grown x s =
    either_way (leb s 2)
    (λ t. rw t (shift-down x (2 ^ s) (2 ^ (2 - s)) 4 (pow_pos s) (pow-split' 2 s (leb-true s 2 t))))
    (λ t. let l : 2 ≤ s = omega (arith, leb-false s 2 t) in rw t (shift-up x (2 ^ (s - 2)) 4 (2 ^ s) (pow_pos (s - 2)) (omega arith) (pow-split s 2 l)))

-- ---- there and back
pub code_up : (x : ℤ) (s : ℕ) → 2 ≤ s → code_of x s ≡ x *ℤ pos (2 ^ (s - 2))
code_up x s h = sym (grown x s) ∙ shift-up x (2 ^ (s - 2)) 4 (2 ^ s) (pow_pos (s - 2)) (omega arith) (pow-split s 2 h)

pub sample-down : (c : ℤ) (s : ℕ) → 2 ≤ s → sample_of c s ≡ shr_z c (2 ^ (s - 2))
sample-down c s h = sym (shrunk c s) ∙ shift-down c 4 (2 ^ (s - 2)) (2 ^ s) (omega arith) (pow-split' s 2 h)

pub round_trip : (x : ℤ) (s : ℕ) → 2 ≤ s → sample_of (code_of x s) s ≡ x
round_trip x s h = rw (code_up x s h, sample-down (x *ℤ pos (2 ^ (s - 2))) s h) (shr-mul x (2 ^ (s - 2)) (pow_pos (s - 2)))

pub round-down : (x : ℤ) (s : ℕ) → s ≤ 2 → sample_of (code_of x s) s ≡ x -ℤ pos (mod_z x (2 ^ (2 - s)))
unfolding sample_of code_of
round-down x s h = rw (le-leb s 2 h) (mul-shr x (2 ^ (2 - s)) (pow_pos (2 - s)))

-- ---- ranges
pub code-room : (c : ℤ) → is_code c ≡ true → mag (c *ℤ pos 4) < 2 ^ 15
code-room c h = mag-mul c 4 (omega arith) (ltb-true (mag c) 8192 (sym (code-mag c) ∙ h))

pub sample-room : (x : ℤ) (s : ℕ) → s ≤ 15 → fits s x ≡ true → mag (x *ℤ pos (2 ^ s)) < 2 ^ 15
sample-room x s l h = rw (pow-split 15 s l) (mag-mul x (2 ^ s) (pow_pos s) (ltb-true (mag x) (2 ^ (15 - s)) (sym (fits-mag s x) ∙ h)))

pub room-code : (c : ℤ) → is_code c ≡ true → SFits w16 (c *ℤ pos 4)
room-code c h = record { sfits = code-room c h }

pub room-sample : (x : ℤ) (s : ℕ) → s ≤ 7 → fits s x ≡ true → SFits w16 (x *ℤ pos (2 ^ s))
room-sample x s l h = record { sfits = sample-room x s (omega arith) h }

pub sample-inside : (c : ℤ) (s : ℕ) → s ≤ 7 → is_code c ≡ true → fits s (sample_of c s) ≡ true
sample-inside c s l h =
    let m : s ≤ 15 = omega arith in
    rw (fits-mag s (sample_of c s), ← shrunk c s)
    (lt-ltb _ _ (mag-shr-lt (c *ℤ pos 4) (2 ^ s) (pow_pos s) (rw (pow-split 15 s m) at (code-room c h))))

pub code_inside : (x : ℤ) (s : ℕ) → s ≤ 7 → fits s x ≡ true → is_code (code_of x s) ≡ true
code_inside x s l h =
    let m : s ≤ 15 = omega arith in
    rw (code-mag (code_of x s), ← grown x s) (lt-ltb _ _ (mag-shr-lt (x *ℤ pos (2 ^ s)) 4 (omega arith) (sample-room x s m h)))
