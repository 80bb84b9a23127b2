-- Laws of the programme byte.
--     kind-is, music-is, mode-is       the three numbers by division
--     value-seven                      the number that the first seven bits make
--     made-is, eight-made, made-even   the written byte, its bits, and that the number of its ones is even
--     written-reads, read-writes       what is written reads back; what reads, writes back
-- Assumes nothing.
use mathlib.Core.Path.{◌≡◌, sym, ap, ◌∙◌}
use mathlib.Core.Bool.{true, ◌&&◌}
use mathlib.Core.List.{List, [], ◌∷◌, ◌++◌}
use Prim.Native.Nat.{ℕ, ◌+◌, ◌*◌, ◌/◌, ◌%◌, ◌^◌, ◌<◌, ◌≤◌}
use native.Mathlib.Nat.{mod-lt}
use native.Mathlib.Omega.{arith}
use borrow.Author.Tests.{le-leb, leb-true, eq-eqb, eqb-true}
use lib.Dec.{leb}
use lib.ListN.{length, get_or, take, drop, length-append}
use Rattle.bits.specs.Digits.{value, digits, Below}
use Rattle.bits.specs.Bits.{ones}
use Rattle.bits.specs.Answer.{accepted}
use Rattle.bits.proofs.Digits.{length_digits, below-digits, below-append, take-digits, drop-digits, value-append, value-snoc, value-digits, digits_value}
use Rattle.bits.proofs.Answer.{by-test}
use Rattle.bits.proofs.Tests.{both_true}
use Rattle.bits.proofs.Bits.{ones-append, ones-digits}
use Rattle.programme.specs.Byte.{eight, kind, music, mode, even, seven, made, read_byte, write_byte}

-- ---- a byte taken apart
part : (m n k x : ℕ) → value 2 (take m (drop k (digits 2 (k + (m + n)) x))) ≡ x / 2 ^ n % 2 ^ m
part m n k x = rw (drop-digits 2 k (m + n) x, take-digits 2 m n x) (value-digits 2 m (x / 2 ^ n) (omega arith))

pub kind-is : (b : ℕ) → kind b ≡ b / 16 % 16
unfolding kind
kind-is b = part 4 4 0 b

pub music-is : (b : ℕ) → music b ≡ b / 8 % 2
unfolding music
music-is b = part 1 3 4 b

pub mode-is : (b : ℕ) → mode b ≡ b / 2 % 4
unfolding mode
mode-is b = part 2 1 5 b

-- ---- a byte put together
length-seven : (t m o : ℕ) → length (seven t m o) ≡ 7
length-seven t m o = rw (length-append, length-append, length_digits 2 4 t, length_digits 2 1 m, length_digits 2 2 o)

below-seven : (t m o : ℕ) → Below 2 (seven t m o)
below-seven t m o =
    below-append 2 (digits 2 4 t) (digits 2 1 m ++ digits 2 2 o) (below-digits 2 4 t (omega arith))
    (below-append 2 (digits 2 1 m) (digits 2 2 o) (below-digits 2 1 m (omega arith)) (below-digits 2 2 o (omega arith)))

pub value-seven : (t m o : ℕ) → t ≤ 15 → m ≤ 1 → o ≤ 3 → value 2 (seven t m o) ≡ t * 8 + m * 4 + o
value-seven t m o ht hm ho =
    rw (
      value-append 2 (digits 2 4 t) (digits 2 1 m ++ digits 2 2 o),
      value-append 2 (digits 2 1 m) (digits 2 2 o),
      length-append (digits 2 1 m) (digits 2 2 o),
      length_digits 2 1 m,
      length_digits 2 2 o,
      value-digits 2 4 t (omega arith),
      value-digits 2 1 m (omega arith),
      value-digits 2 2 o (omega arith),
    )
    (omega arith)

-- the parity bit
abbrev parity : ℕ → ℕ → ℕ → ℕ
parity t m o = ones (seven t m o) % 2

pub made-is : (t m o : ℕ) → t ≤ 15 → m ≤ 1 → o ≤ 3 → made t m o ≡ t * 16 + m * 8 + o * 2 + parity t m o
unfolding made
made-is t m o ht hm ho = rw (value-snoc 2 (seven t m o) (parity t m o), value-seven t m o ht hm ho) (omega arith)

pub eight-made : (t m o : ℕ) → eight (made t m o) ≡ seven t m o ++ (parity t m o ∷ [])
unfolding made Below
eight-made t m o =
    digits_value 2 8 (seven t m o ++ (parity t m o ∷ []))
    (below-append 2 (seven t m o) (parity t m o ∷ []) (below-seven t m o) (mod-lt (ones (seven t m o)) (omega arith), tt))
    (rw (length-append (seven t m o) (parity t m o ∷ []), length-seven t m o))

pub made-even : (t m o : ℕ) → even (made t m o) ≡ true
unfolding even ones
made-even t m o =
    rw (eight-made t m o, ones-append (seven t m o) (parity t m o ∷ []))
    (eq-eqb ((ones (seven t m o) + (parity t m o % 2 + 0)) % 2) 0 (omega arith))

-- the ones of the number that a type, a music bit and a mode make, with 0 for the parity
pub ones-seven : (t m o : ℕ) → t ≤ 15 → m ≤ 1 → o ≤ 3 → ones (eight (t * 16 + m * 8 + o * 2)) ≡ ones (seven t m o)
ones-seven t m o ht hm ho =
    let half : (t * 16 + m * 8 + o * 2) / 2 ≡ value 2 (seven t m o) = rw (value-seven t m o ht hm ho) (omega arith) in
    let low : (t * 16 + m * 8 + o * 2) % 2 ≡ 0 = omega arith in
    rw (ones-digits 7 (t * 16 + m * 8 + o * 2), half, low, digits_value 2 7 (seven t m o) (below-seven t m o) (length-seven t m o))
    (omega arith)

pub made-sum : (t m o : ℕ) → t ≤ 15 → m ≤ 1 → o ≤ 3 → t * 16 + m * 8 + o * 2 + ones (eight (t * 16 + m * 8 + o * 2)) % 2 ≡ made t m o
made-sum t m o ht hm ho = rw (ones-seven t m o ht hm ho) (sym (made-is t m o ht hm ho))

-- ---- there and back
pub in-range : (t m o : ℕ) → t ≤ 15 → m ≤ 1 → o ≤ 3 → write_byte t m o ≡ accepted (made t m o ∷ [])
unfolding write_byte
in-range t m o ht hm ho = rw (le-leb t 15 ht, le-leb m 1 hm, le-leb o 3 ho)

-- what the test on the three numbers says when it passes
ranges : (t m o : ℕ) → leb t 15 && (leb m 1 && leb o 3) ≡ true → (t ≤ 15) × (m ≤ 1) × (o ≤ 3)
ranges t m o good =
    let one = both_true (leb t 15) (leb m 1 && leb o 3) good in
    let two = both_true (leb m 1) (leb o 3) one.1 in
    (leb-true t 15 one.0, leb-true m 1 two.0, leb-true o 3 two.1)

reads_made : (t m o : ℕ) → t ≤ 15 → m ≤ 1 → o ≤ 3 → read_byte (made t m o) ≡ accepted (t ∷ m ∷ o ∷ [])
unfolding read_byte
reads_made t m o ht hm ho =
    let sum : made t m o ≡ t * 16 + m * 8 + o * 2 + parity t m o = made-is t m o ht hm ho in
    let small : parity t m o < 2 = mod-lt (ones (seven t m o)) (omega arith) in
    let k : kind (made t m o) ≡ t = kind-is (made t m o) ∙ omega arith in
    let u : music (made t m o) ≡ m = music-is (made t m o) ∙ omega arith in
    let d : mode (made t m o) ≡ o = mode-is (made t m o) ∙ omega arith in
    rw (made-even t m o, k, u, d)

pub written-reads : (t m o b : ℕ) → write_byte t m o ≡ accepted (b ∷ []) → read_byte b ≡ accepted (t ∷ m ∷ o ∷ [])
unfolding write_byte
written-reads t m o b e =
    let way = by-test (leb t 15 && (leb m 1 && leb o 3)) 1 e in
    let in' = ranges t m o way.0 in
    let is : made t m o ≡ b = ap (λ (l : List ℕ). get_or l 0 0) way.1 in
    rw is at (reads_made t m o in'.0 in'.1 in'.2)

-- half a byte, rounded down, by its three parts; and the byte from them and its last bit
half_is : (b : ℕ) → b < 256 → b / 2 ≡ b / 16 % 16 * 8 + b / 8 % 2 * 4 + b / 2 % 4
half_is b h = omega arith

whole_is : (b t m o : ℕ) → b / 2 ≡ t * 8 + m * 4 + o → t * 16 + m * 8 + o * 2 + b % 2 ≡ b
whole_is b t m o e = omega arith

first-seven : (b : ℕ) → b < 256 → digits 2 7 (b / 2) ≡ seven (b / 16 % 16) (b / 8 % 2) (b / 2 % 4)
first-seven b h =
    let t : ℕ = b / 16 % 16 in
    let m : ℕ = b / 8 % 2 in
    let o : ℕ = b / 2 % 4 in
    ap (digits 2 7) (half_is b h ∙ sym (value-seven t m o (omega arith) (omega arith) (omega arith)))
    ∙ digits_value 2 7 (seven t m o) (below-seven t m o) (length-seven t m o)

same-parity : (n p : ℕ) → p < 2 → (n + p) % 2 ≡ 0 → n % 2 ≡ p
same-parity n p h e = omega arith

-- a byte of even parity is made of what it reads as
made-read : (b : ℕ) → b < 256 → even b ≡ true → made (b / 16 % 16) (b / 8 % 2) (b / 2 % 4) ≡ b
unfolding even
made-read b h e =
    let t : ℕ = b / 16 % 16 in
    let m : ℕ = b / 8 % 2 in
    let o : ℕ = b / 2 % 4 in
    let count : ones (eight b) ≡ ones (seven t m o) + b % 2 = ones-digits 7 b ∙ ap (λ (l : List ℕ). ones l + b % 2) (first-seven b h) in
    let last : parity t m o ≡ b % 2 = same-parity (ones (seven t m o)) (b % 2) (mod-lt b (omega arith)) (rw count at (eqb-true (ones (eight b) % 2) 0 e)) in
    made-is t m o (omega arith) (omega arith) (omega arith) ∙ rw last (whole_is b t m o (half_is b h))

pub read-writes : (t m o b : ℕ) → b < 256 → read_byte b ≡ accepted (t ∷ m ∷ o ∷ []) → write_byte t m o ≡ accepted (b ∷ [])
unfolding read_byte
read-writes t m o b h e =
    let way = by-test (even b) 5 e in
    let et : b / 16 % 16 ≡ t = sym (kind-is b) ∙ ap (λ (l : List ℕ). get_or l 0 0) way.1 in
    let em : b / 8 % 2 ≡ m = sym (music-is b) ∙ ap (λ (l : List ℕ). get_or l 1 0) way.1 in
    let eo : b / 2 % 4 ≡ o = sym (mode-is b) ∙ ap (λ (l : List ℕ). get_or l 2 0) way.1 in
    in-range t m o (omega arith) (omega arith) (omega arith)
    ∙ ap (λ (x : ℕ). accepted (x ∷ [])) (rw (et, em, eo) at (made-read b h way.0))
