-- By the table of a generator, steps of eight bits give the remainder.
--     digits-front      zeros in front of a number's digits
--     eights-digits     of a number's digits, for every generator of a degree from 8 on
--     rows-digits       of a list of bits
--     word-remainder, row-remainder, check-remainder
--                       THE THEOREMS, for every generator of degree 19: what the public functions promise of any table is, with its own, `remainder` and `check_bits`
-- Assumes nothing.
use mathlib.Core.Path.{◌≡◌, refl, sym, ap, ap₂, ◌∙◌}
use mathlib.Core.List.{List, [], ◌∷◌, ◌++◌, map}
use Prim.Native.Nat.{ℕ, zero, suc, ◌+◌, ◌-◌, ◌*◌, ◌/◌, ◌%◌, ◌^◌, ◌<◌, ◌≤◌}
use native.Mathlib.Nat.{mod-lt, mod-eq_of_lt, div-eq_of_lt, mul-mod_left}
use native.Mathlib.Omega.{arith}
use lib.ListN.{length, get_or, take, drop, length-drop, get_or-map}
use lib.Pow.{pow_pos, pow_mono, shr_lt, shl-shr}
use lib.Seq.{ext_get_or, get_or-take, get_or-drop, take-add, take_all, length-take-le}
use Rattle.bits.specs.Bits.{eight_at, byte_at}
use Rattle.bits.specs.Digits.{value, digits, Below}
use Rattle.bits.proofs.Bits.{length-eight_at, eight_at-get_or, below-eight_at}
use Rattle.bits.proofs.Digits.{length_digits, below-digits, digits_append, digits_low, digits-zero, digits_value, take-digits, value-digits, value-below}
use Rattle.bits.proofs.Table.{get_or-tab}
use Rattle.remainder.specs.Polynomial.{zeros}
use Rattle.remainder.specs.Remainder.{step, divide, remainder, check_bits}
use Rattle.remainder.proofs.Division.{length-remainder, below-remainder, remainder-short, remainder-zeros, remainder-on}
use Rattle.remainder.proofs.Register.{step-odd}
use Rattle.eights.specs.Eights.{remainders_of, eights, rows, word_by, row_by, check_by}
use Rattle.eights.proofs.Step.{eight-digits, eight-small}

abbrev odd : List ℕ → List ℕ
odd w = map (λ x. x % 2) w

-- ---- zeros in front, and entries that are neither 0 nor 1
pub digits-front : (a n x : ℕ) → x < 2 ^ n → digits 2 (a + n) x ≡ zeros a ++ digits 2 n x
digits-front a n x h =
    digits_append 2 a n x ∙ ap (λ (k : ℕ). digits 2 a k ++ digits 2 n x) (div-eq_of_lt h) ∙ ap (λ (l : List ℕ). l ++ digits 2 n x) (digits-zero a)

divide-odd : (g r w : List ℕ) → divide g r (odd w) ≡ divide g r w
unfolding divide
divide-odd g r [] = refl
divide-odd g r (b ∷ w) = ap (λ (s : List ℕ). divide g s (odd w)) (step-odd g r b) ∙ divide-odd g (step g r b) w

remainder-odd : (g w : List ℕ) → remainder g (odd w) ≡ remainder g w
unfolding remainder
remainder-odd g w = divide-odd g _ w

length-odd : (w : List ℕ) → length (odd w) ≡ length w
length-odd [] = refl
length-odd (x ∷ w) = ap suc (length-odd w)

part : (bits : List ℕ) (at n : ℕ) → n ≤ 8 → at + n ≤ length bits → take n (eight_at bits at) ≡ odd (take n (drop at bits))
part bits at n h l =
    ext_get_or 0 (take n (eight_at bits at)) (odd (take n (drop at bits)))
    (size ∙ sym (length-odd (take n (drop at bits)) ∙ length-take-le n (drop at bits) (omega (arith, length-drop at bits))))
    (λ i k.
    let w : i < n = omega (arith, size) in
    get_or-take n (eight_at bits at) i 0 w ∙ eight_at-get_or bits at i (omega arith)
    ∙ sym (get_or-map (λ x. x % 2) (take n (drop at bits)) i 0 ∙ ap (λ (x : ℕ). x % 2) (get_or-take n (drop at bits) i 0 w ∙ get_or-drop at bits i 0)))
  where
    size : length (take n (eight_at bits at)) ≡ n
    size = length-take-le n (eight_at bits at) (omega (arith, length-eight_at bits at))

byte-digits : (bits : List ℕ) (at : ℕ) → digits 2 8 (byte_at bits at) ≡ eight_at bits at
unfolding byte_at
byte-digits bits at = digits_value 2 8 (eight_at bits at) (below-eight_at bits at) (length-eight_at bits at)

byte_small : (bits : List ℕ) (at : ℕ) → byte_at bits at < 2 ^ 8
unfolding byte_at
byte_small bits at = rw (length-eight_at bits at) at (value-below 2 (eight_at bits at) (below-eight_at bits at))

-- ---- a table t for a generator of the degree 8 + m
module _ (g : List ℕ) (m : ℕ) (t : List ℕ) (degree : length g ≡ 8 + m)
    (rule : (k : ℕ) → k < 2 ^ 8 → get_or t k 0 ≡ value 2 (check_bits g (digits 2 8 k))) where
  own : (x : ℕ) → remainder g (digits 2 (8 + m) x) ≡ digits 2 (8 + m) x
  own x = remainder-short g (digits 2 (8 + m) x) (below-digits 2 (8 + m) x (omega arith)) (length_digits 2 (8 + m) x ∙ sym degree)

  pub eights-digits : (k x : ℕ) → x < 2 ^ (8 * k + (8 + m))
      → (eights m t k x < 2 ^ (8 + m)) × (digits 2 (8 + m) (eights m t k x) ≡ remainder g (digits 2 (8 * k + (8 + m)) x))
  unfolding eights
  eights-digits zero x h = let e : 8 * zero + (8 + m) ≡ 8 + m = omega arith in (rw e at h, sym (ap (λ (n : ℕ). remainder g (digits 2 n x)) e ∙ own x))
  eights-digits (suc k) x h =
      let e : 8 * suc k + (8 + m) ≡ 8 * k + (8 + m) + 8 = omega arith in
      let so_far = eights-digits k (x / 2 ^ 8) (shr_lt (8 * k + (8 + m)) 8 (rw e at h)) in
      let reg : ℕ = eights m t k (x / 2 ^ 8) in
      let byte : x % 2 ^ 8 < 2 ^ 8 = mod-lt x (pow_pos 8) in (
        eight-small g m t degree rule reg (x % 2 ^ 8) so_far.0 byte,
        eight-digits g m t degree rule reg (x % 2 ^ 8) so_far.0 byte
            ∙ ap₂ (divide g) so_far.1 (digits_low 8 x)
            ∙ sym (ap (λ (n : ℕ). remainder g (digits 2 n x)) e ∙ ap (remainder g) (digits_append 2 (8 * k + (8 + m)) 8 x)
            ∙ remainder-on g (digits 2 (8 * k + (8 + m)) (x / 2 ^ 8)) (digits 2 8 x)),
      )

  module _ (bits : List ℕ) where
    abbrev over : ℕ
    over = length bits % 8

    first : ℕ
    first = byte_at bits 0 / 2 ^ (8 - over)

    first_small : first < 2 ^ over
    unfolding first
    first_small = let e : over + (8 - over) ≡ 8 = omega arith in shr_lt over (8 - over) (rw e (byte_small bits 0))

    first-digits : digits 2 over first ≡ odd (take over bits)
    unfolding first
    first-digits =
        let e : over + (8 - over) ≡ 8 = omega arith in
        sym (take-digits 2 over (8 - over) (byte_at bits 0)) ∙ ap (λ (n : ℕ). take over (digits 2 n (byte_at bits 0))) e
        ∙ ap (take over) (byte-digits bits 0) ∙ part bits 0 over (omega arith) (omega arith)

    pub rows-digits : (k : ℕ) → k ≤ length bits / 8
        → (rows m t bits k < 2 ^ (8 + m)) × (digits 2 (8 + m) (rows m t bits k) ≡ remainder g (take (over + 8 * k) bits))
    unfolding rows first
    rows-digits zero h =
        let e : 8 - over + m + over ≡ 8 + m = omega arith in
        let o : over + 8 * zero ≡ over = omega arith in (
          omega (arith, first_small, pow_mono {i = over} {j = 8 + m} (omega arith)),
          sym (own first) ∙ ap (λ (n : ℕ). remainder g (digits 2 n first)) (sym e) ∙ ap (remainder g) (digits-front (8 - over + m) over first first_small)
              ∙ remainder-zeros g (8 - over + m) (digits 2 over first) ∙ ap (remainder g) first-digits ∙ remainder-odd g (take over bits)
              ∙ ap (λ (n : ℕ). remainder g (take n bits)) (sym o),
        )
    rows-digits (suc k) h =
        let at : ℕ = over + 8 * k in
        let e : over + 8 * suc k ≡ at + 8 = omega arith in
        let so_far = rows-digits k (omega arith) in
        let next : odd (take 8 (drop at bits)) ≡ digits 2 8 (byte_at bits at) =
        sym (part bits at 8 (omega arith) (omega arith)) ∙ take_all 8 (eight_at bits at) (omega (arith, length-eight_at bits at)) ∙ sym (byte-digits bits at) in (
          eight-small g m t degree rule (rows m t bits k) (byte_at bits at) so_far.0 (byte_small bits at),
          eight-digits g m t degree rule (rows m t bits k) (byte_at bits at) so_far.0 (byte_small bits at)
              ∙ ap₂ (divide g) so_far.1 (sym next)
              ∙ divide-odd g (remainder g (take at bits)) (take 8 (drop at bits))
              ∙ sym (ap (λ (n : ℕ). remainder g (take n bits)) e ∙ ap (remainder g) (take-add at 8 bits) ∙ remainder-on g (take at bits) (take 8 (drop at bits))),
        )

-- ---- the table of a generator of degree 19
as_number : (r : ℕ) (w : List ℕ) → r < 2 ^ 19 → digits 2 19 r ≡ w → r ≡ value 2 w
as_number r w h e = sym (mod-eq_of_lt h) ∙ sym (value-digits 2 19 r (omega arith)) ∙ ap (value 2) e

module _ (g : List ℕ) (degree : length g ≡ 19) where
  abbrev table : List ℕ
  table = remainders_of g

  rule : (k : ℕ) → k < 2 ^ 8 → get_or table k 0 ≡ value 2 (check_bits g (digits 2 8 k))
  unfolding remainders_of
  rule k h = get_or-tab 256 (λ k. value 2 (check_bits g (digits 2 8 k))) k 0 h

  pub word-remainder : (x : ℕ) → x < 2 ^ 64 → word_by table x ≡ value 2 (remainder g (digits 2 64 x))
  unfolding word_by
  word-remainder x h =
      let all = eights-digits g 11 table degree rule 6 x (omega (arith, h)) in
      as_number (eights 11 table 6 x) _ all.0
      (all.1 ∙ ap (remainder g) (digits-front 3 64 x h) ∙ remainder-zeros g 3 (digits 2 64 x))

  pub row-remainder : (bits : List ℕ) → row_by table bits ≡ value 2 (remainder g bits)
  unfolding row_by
  row-remainder bits =
      let all = rows-digits g 11 table degree rule bits (length bits / 8) (omega arith) in
      as_number (rows 11 table bits (length bits / 8)) _ all.0
      (all.1 ∙ ap (remainder g) (take_all (length bits % 8 + 8 * (length bits / 8)) bits (omega arith)))

  -- the remainder's digits with 19 zeros behind them, divided again
  module _ (bits : List ℕ) where
    r : List ℕ
    r = remainder g bits

    x : ℕ
    x = value 2 r * 2 ^ 19

    size : length r ≡ 19
    unfolding r
    size = length-remainder g bits ∙ degree

    below : Below 2 r
    unfolding r
    below = below-remainder g bits

    small : value 2 r < 2 ^ 19
    small = rw size at (value-below 2 r below)

    shifted : digits 2 38 x ≡ r ++ zeros 19
    unfolding x
    shifted =
        digits_append 2 19 19 x
        ∙ ap₂ ◌++◌
        (ap (digits 2 19) (shl-shr (value 2 r) 19) ∙ digits_value 2 19 r below size)
        (sym (digits_low 19 x) ∙ ap (digits 2 19) (mul-mod_left (value 2 r) (2 ^ 19)) ∙ digits-zero 19)

    again : remainder g (r ++ zeros 19) ≡ check_bits g bits
    unfolding r check_bits
    again =
        remainder-on g r (zeros 19)
        ∙ ap (λ (l : List ℕ). divide g l (zeros 19)) (remainder-short g r below (length-remainder g bits))
        ∙ sym (ap (λ (n : ℕ). remainder g (bits ++ zeros n)) degree ∙ remainder-on g bits (zeros 19))

    pub check-remainder : check_by table bits ≡ value 2 (check_bits g bits)
    unfolding check_by x r
    check-remainder =
        ap (λ (n : ℕ). word_by table (n * 2 ^ 19)) (row-remainder bits)
        ∙ word-remainder x (omega (arith, small))
        ∙ ap (λ (l : List ℕ). value 2 (remainder g l)) (digits-front 26 38 x (omega (arith, small)))
        ∙ ap (value 2) (remainder-zeros g 26 (digits 2 38 x) ∙ ap (remainder g) shifted ∙ again)
