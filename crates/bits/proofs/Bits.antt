-- Laws of bits and bytes.
--     bit_at-shifted                bit k as a byte's shift gives it
--     past_end                     past the end every bit is 0
--     bit_below                    an entry of a row of bits is 0 or 1, past its end too
--     bit_at-below, bits_of-at, below-bits_of    a bit of bytes is 0 or 1; their bits one by one, past the end too
--     length-eight_at, eight_at-get_or, below-eight_at    eight bits, which stands where, each is one
--     length-bits_of, length-bytes_of    how many there are
--     bytes_back, bits_back        bytes made of bytes' bits are those bytes; bits of the bytes that bits make are those bits
--     ones-append, ones-digits     ones of two rows of bits; of a number's digits, taken off from the lowest
--     all-below, below_all         numbers that pass the test are digits in that base, and the other way round
--     bits_below, below-bits       the same of bits
-- Assumes nothing.
use mathlib.Core.Path.{◌≡◌, refl, sym, ap, ◌∙◌}
use mathlib.Core.Bool.{true}
use mathlib.Core.List.{List, [], ◌∷◌, ◌++◌}
use Prim.Native.Nat.{ℕ, suc, ◌+◌, ◌-◌, ◌*◌, ◌/◌, ◌%◌, ◌^◌, ◌<◌, ◌≤◌}
use native.Mathlib.Nat.{mod-lt, mod-eq_of_lt, zero-div, zero-mod}
use native.Mathlib.Decide.{dec_le}
use native.Mathlib.Numerals.{add-one}
use native.Mathlib.Omega.{arith}
use borrow.Author.Tests.{lt-ltb, ltb-true}
use lib.Dec.{ltb}
use lib.ListN.{length, get_or, get_or-eq_default}
use Rattle.bits.specs.Table.{tabulate, every}
use Rattle.bits.specs.Digits.{value, digits, Below}
use Rattle.bits.specs.Bits.{bit_at, bits_of, eight_at, byte_at, bytes_of, ones, all_below, are_bits}
use Rattle.bits.proofs.Table.{length-tab, get_or-tab, tab-ext, tab-get_or}
use Rattle.bits.proofs.Tests.{both_true}
use Rattle.bits.proofs.Digits.{length_digits, get_or-digits, below-digits, below-get_or, below-tab, value-digits, digits_value}

pub bit_at-shifted : (bytes : List ℕ) (k : ℕ) → bit_at bytes k ≡ get_or bytes (k / 8) 0 / 2 ^ (7 - k % 8) % 2
unfolding bit_at
bit_at-shifted bytes k = get_or-digits 2 8 (get_or bytes (k / 8) 0) (k % 8) (omega arith)

pub past_end : (bits : List ℕ) (k : ℕ) → length bits ≤ k → 0 ≡ get_or bits k 0 % 2
past_end bits k h = sym (ap (λ (x : ℕ). x % 2) (get_or-eq_default bits 0 h))

pub length-eight_at : (bits : List ℕ) (at : ℕ) → length (eight_at bits at) ≡ 8
unfolding eight_at
length-eight_at bits at = length-tab 8 (λ j. get_or bits (at + j) 0 % 2)

pub eight_at-get_or : (bits : List ℕ) (at j : ℕ) → j < 8 → get_or (eight_at bits at) j 0 ≡ get_or bits (at + j) 0 % 2
unfolding eight_at
eight_at-get_or bits at j h = get_or-tab 8 (λ j. get_or bits (at + j) 0 % 2) j 0 h

pub below-eight_at : (bits : List ℕ) (at : ℕ) → Below 2 (eight_at bits at)
unfolding eight_at
below-eight_at bits at = below-tab 2 8 (λ j. get_or bits (at + j) 0 % 2) (λ j h. mod-lt (get_or bits (at + j) 0) (omega arith))

-- the place 8 i + j is bit j of byte i
place-div : (i j : ℕ) → j < 8 → (8 * i + j) / 8 ≡ i
place-div i j h = omega arith

place-mod : (i j : ℕ) → j < 8 → (8 * i + j) % 8 ≡ j
place-mod i j h = omega arith

eight-of-byte : (bytes : List ℕ) (i : ℕ) → i < length bytes → eight_at (bits_of bytes) (8 * i) ≡ digits 2 8 (get_or bytes i 0)
unfolding eight_at bits_of bit_at
eight-of-byte bytes i h =
    let byte : ℕ = get_or bytes i 0 in
    tab-ext 8 (λ j. get_or (tabulate (8 * length bytes) (bit_at bytes)) (8 * i + j) 0 % 2) (λ j. get_or (digits 2 8 byte) j 0)
    (λ j l.
    let within : 8 * i + j < 8 * length bytes = omega arith in
    let small : get_or (digits 2 8 byte) j 0 < 2 = below-get_or 2 (digits 2 8 byte) j (below-digits 2 8 byte (omega arith)) (rw (length_digits 2 8 byte) l) in
    rw (get_or-tab (8 * length bytes) (bit_at bytes) (8 * i + j) 0 within, place-div i j l, place-mod i j l) (mod-eq_of_lt small))
    ∙ sym (tab-get_or 8 (digits 2 8 byte) 0 (length_digits 2 8 byte))

pub length-bits_of : (bytes : List ℕ) → length (bits_of bytes) ≡ 8 * length bytes
unfolding bits_of
length-bits_of bytes = length-tab (8 * length bytes) (bit_at bytes)

pub length-bytes_of : (bits : List ℕ) → length (bytes_of bits) ≡ length bits / 8
unfolding bytes_of
length-bytes_of bits = length-tab (length bits / 8) (λ i. byte_at bits (8 * i))

pub bytes_back : (bytes : List ℕ) → Below 256 bytes → bytes_of (bits_of bytes) ≡ bytes
unfolding bytes_of byte_at
bytes_back bytes h =
    let sized : length (bits_of bytes) / 8 ≡ length bytes = ap (λ (n : ℕ). n / 8) (length-bits_of bytes) ∙ omega arith in
    ap (λ (n : ℕ). tabulate n (λ i. byte_at (bits_of bytes) (8 * i))) sized
    ∙ tab-ext (length bytes) (λ i. byte_at (bits_of bytes) (8 * i)) (λ i. get_or bytes i 0)
    (λ i l. ap (value 2) (eight-of-byte bytes i l) ∙ value-digits 2 8 (get_or bytes i 0) (omega arith) ∙ mod-eq_of_lt (below-get_or 256 bytes i h l))
    ∙ sym (tab-get_or (length bytes) bytes 0 refl)

pub bits_back : (bits : List ℕ) (n : ℕ) → Below 2 bits → length bits ≡ 8 * n → bits_of (bytes_of bits) ≡ bits
unfolding bits_of bit_at bytes_of byte_at
bits_back bits n h e =
    let count : length bits / 8 ≡ n = omega arith in
    let sized : 8 * length (bytes_of bits) ≡ length bits = ap (λ (m : ℕ). 8 * m) (length-bytes_of bits) ∙ omega arith in
    ap (λ (m : ℕ). tabulate m (bit_at (bytes_of bits))) sized
    ∙ tab-ext (length bits) (bit_at (bytes_of bits)) (λ k. get_or bits k 0)
    (λ k l.
    let i : ℕ = k / 8 in
    let within : i < length bits / 8 = omega arith in
    let whole : 8 * i + k % 8 ≡ k = omega arith in
    let j : k % 8 < 8 = omega arith in
    rw (get_or-tab (length bits / 8) (λ i. byte_at bits (8 * i)) i 0 within, digits_value 2 8 (eight_at bits (8 * i)) (below-eight_at bits (8 * i)) (length-eight_at bits (8 * i)), eight_at-get_or bits (8 * i) (k % 8) j, whole)
    (mod-eq_of_lt (below-get_or 2 bits k h l)))
    ∙ sym (tab-get_or (length bits) bits 0 refl)

-- ---- bits one by one
pub bit_below : (l : List ℕ) (k : ℕ) → Below 2 l → get_or l k 0 < 2
bit_below l k h = go (dec_le (suc k) (length l))
  where
    go : Dec (k < length l) → get_or l k 0 < 2
    go (yes i) = below-get_or 2 l k h i
    go (no o) = rw (get_or-eq_default l 0 {n = k} (omega arith)) (omega arith)

pub bit_at-below : (bytes : List ℕ) (k : ℕ) → bit_at bytes k < 2
bit_at-below bytes k = rw (bit_at-shifted bytes k) (mod-lt (get_or bytes (k / 8) 0 / 2 ^ (7 - k % 8)) (omega arith))

pub bits_of-at : (bytes : List ℕ) (k : ℕ) → get_or (bits_of bytes) k 0 ≡ bit_at bytes k
unfolding bits_of
bits_of-at bytes k = go (dec_le (suc k) (8 * length bytes))
  where
    past : length bytes ≤ k / 8 → bit_at bytes k ≡ 0
    past h = bit_at-shifted bytes k ∙ rw (get_or-eq_default bytes 0 h, zero-div, zero-mod)

    go : Dec (k < 8 * length bytes) → get_or (bits_of bytes) k 0 ≡ bit_at bytes k
    go (yes i) = get_or-tab (8 * length bytes) (bit_at bytes) k 0 i
    go (no o) =
        let end : length (bits_of bytes) ≤ k = omega (arith, length-bits_of bytes) in
        get_or-eq_default (bits_of bytes) 0 end ∙ sym (past (omega arith))

pub below-bits_of : (bytes : List ℕ) → Below 2 (bits_of bytes)
unfolding bits_of
below-bits_of bytes = below-tab 2 (8 * length bytes) (bit_at bytes) (λ k h. bit_at-below bytes k)

-- ---- ones
pub ones-append : (xs ys : List ℕ) → ones (xs ++ ys) ≡ ones xs + ones ys
unfolding ones
ones-append [] ys = omega arith
ones-append (x ∷ xs) ys = rw (ones-append xs ys) (omega arith)

pub ones-digits : (n x : ℕ) → ones (digits 2 (n + 1) x) ≡ ones (digits 2 n (x / 2)) + x % 2
unfolding ones digits
ones-digits n x = rw (add-one n, ones-append (digits 2 n (x / 2)) (x % 2 ∷ [])) (omega arith)

-- ---- numbers below a bound
pub all-below : (b : ℕ) (l : List ℕ) → all_below b l ≡ true → Below b l
unfolding all_below every Below
all-below b [] e = tt
all-below b (x ∷ l) e = let both = both_true (ltb x b) (all_below b l) e in (ltb-true x b both.0, all-below b l both.1)

pub below_all : (b : ℕ) (l : List ℕ) → Below b l → all_below b l ≡ true
unfolding all_below every Below
below_all b [] h = refl
below_all b (x ∷ l) h = rw (lt-ltb x b h.0) (below_all b l h.1)

pub bits_below : (l : List ℕ) → are_bits l ≡ true → Below 2 l
bits_below l e = all-below 2 l e

pub below-bits : (l : List ℕ) → Below 2 l → are_bits l ≡ true
below-bits l h = below_all 2 l h
