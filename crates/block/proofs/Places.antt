-- Laws of the 77 bits.
--     length-sound, below-sound, sound-at      the 44 protected sound bits, and which stands where
--     length_rest, below_rest, rest_at         the 12 unprotected ones
--     length-block, at-sound, at-check, at_rest, at-extra      the whole block, and which bit stands where
--     length-fourteen, below-fourteen, fourteen-at             the 14 bits of a channel, and where they stand
-- Assumes nothing.
use mathlib.Core.Path.{◌≡◌, sym, ap, ◌∙◌}
use mathlib.Core.List.{List, ◌++◌, map}
use Prim.Native.Nat.{ℕ, ◌+◌, ◌-◌, ◌*◌, ◌/◌, ◌%◌, ◌^◌, ◌<◌, ◌≤◌}
use native.Mathlib.Omega.{arith}
use borrow.Author.Tests.{ltb-true, ltb-false}
use lib.Dec.{ltb}
use lib.IntN.{ℤ, pos}
use lib.ListN.{length, get_or, take, drop, length-drop, length-append}
use lib.Seq.{get_or-take, get_or-drop, length-take-le}
use Rattle.bits.proofs.Table.{get_d_front, get_or-back}
use Rattle.bits.proofs.Tests.{either_way}
use Rattle.code.specs.Generators.{block_generator}
use Rattle.code.specs.Words.{encode}
use Rattle.code.proofs.Smallest.{block_size}
use Rattle.remainder.specs.Remainder.{check_bits}
use Rattle.remainder.proofs.Division.{length-check, below-check}
use Rattle.bits.specs.Digits.{value, Below}
use Rattle.bits.proofs.Digits.{get_or-digits, digits_value, below-append, below-take, below-drop}
use Rattle.sample.specs.Pattern.{code_bits}
use Rattle.sample.proofs.Patterns.{length-code_bits, below-code_bits}
use Rattle.block.specs.Layout.{joined, upper, lower, sound, rest, block_with, fourteen, code_place}
use Rattle.block.proofs.Joined.{length-joined, get_or-joined, below-joined}

length-upper : (c : ℤ) → length (upper c) ≡ 11
length-upper c = length-take-le 11 (code_bits c) (omega (arith, length-code_bits c))

length-lower : (c : ℤ) → length (lower c) ≡ 3
length-lower c = length-drop 11 (code_bits c) ∙ omega (arith, length-code_bits c)

pub length-sound : (codes : List ℤ) → length (sound codes) ≡ 11 * length codes
unfolding sound
length-sound codes = length-joined 11 upper length-upper codes

pub length_rest : (codes : List ℤ) → length (rest codes) ≡ 3 * length codes
unfolding rest
length_rest codes = length-joined 3 lower length-lower codes

pub below-sound : (codes : List ℤ) → Below 2 (sound codes)
unfolding sound
below-sound codes = below-joined 2 upper (λ c. below-take 2 11 (code_bits c) (below-code_bits c)) codes

pub below_rest : (codes : List ℤ) → Below 2 (rest codes)
unfolding rest
below_rest codes = below-joined 2 lower (λ c. below-drop 2 11 (code_bits c) (below-code_bits c)) codes

pub sound-at : (codes : List ℤ) (j : ℕ) → j < 11 * length codes → get_or (code_bits (get_or codes (j / 11) (pos 0))) (j % 11) 0 ≡ get_or (sound codes) j 0
unfolding sound
sound-at codes j h =
    let i : j / 11 < length codes = omega arith in
    let k : j % 11 < 11 = omega arith in
    let whole : 11 * (j / 11) + j % 11 ≡ j = omega arith in
    sym (ap (λ (m : ℕ). get_or (joined (map upper codes)) m 0) (sym whole) ∙ get_or-joined 11 upper length-upper codes (j / 11) (j % 11) (pos 0) i k ∙ get_or-take 11 (code_bits (get_or codes (j / 11) (pos 0))) (j % 11) 0 k)

pub rest_at : (codes : List ℤ) (j : ℕ) → j < 3 * length codes → get_or (code_bits (get_or codes (j / 3) (pos 0))) (11 + j % 3) 0 ≡ get_or (rest codes) j 0
unfolding rest
rest_at codes j h =
    let i : j / 3 < length codes = omega arith in
    let k : j % 3 < 3 = omega arith in
    let whole : 3 * (j / 3) + j % 3 ≡ j = omega arith in
    sym (ap (λ (m : ℕ). get_or (joined (map lower codes)) m 0) (sym whole) ∙ get_or-joined 3 lower length-lower codes (j / 3) (j % 3) (pos 0) i k ∙ get_or-drop 11 (code_bits (get_or codes (j / 3) (pos 0))) (j % 3) 0)

-- ---- the whole block
module _ (codes : List ℤ) (extra : List ℕ) (four : length codes ≡ 4) where
  abbrev check : List ℕ
  check = check_bits block_generator (sound codes)

  length-44 : length (sound codes) ≡ 44
  length-44 = length-sound codes ∙ omega arith

  length-19 : length check ≡ 19
  length-19 = length-check block_generator (sound codes) ∙ block_size

  length-12 : length (rest codes) ≡ 12
  length-12 = length_rest codes ∙ omega arith

  pub length-63 : length (encode block_generator (sound codes)) ≡ 63
  unfolding encode
  length-63 = length-append (sound codes) check ∙ omega (arith, length-44, length-19)

  pub length-block : length (block_with codes extra) ≡ 75 + length extra
  unfolding block_with
  length-block =
      length-append (encode block_generator (sound codes)) (rest codes ++ extra)
      ∙ rw (length-63, length-append (rest codes) extra, length-12) (omega arith)

  pub at-sound : (j : ℕ) → j < 44 → get_or (sound codes) j 0 ≡ get_or (block_with codes extra) j 0
  unfolding block_with encode
  at-sound j h =
      sym (get_d_front (sound codes ++ check) (rest codes ++ extra) 63 j 0 length-63 (omega arith) ∙ get_d_front (sound codes) check 44 j 0 length-44 h)

  pub at-check : (j : ℕ) → 44 ≤ j → j < 63 → value 2 check / 2 ^ (62 - j) % 2 ≡ get_or (block_with codes extra) j 0
  unfolding block_with encode
  at-check j l h =
      let back : 62 - j ≡ 19 - 1 - (j - 44) = omega arith in
      let digit = get_or-digits 2 19 (value 2 check) (j - 44) (omega arith) in
      sym
      (get_d_front (sound codes ++ check) (rest codes ++ extra) 63 j 0 length-63 h ∙ get_or-back (sound codes) check 44 j 0 length-44 l
      ∙ ap (λ (c : List ℕ). get_or c (j - 44) 0) (sym (digits_value 2 19 check (below-check block_generator (sound codes)) length-19))
      ∙ digit ∙ ap (λ (n : ℕ). value 2 check / 2 ^ n % 2) (sym back))

  pub at_rest : (j : ℕ) → 63 ≤ j → j < 75 → get_or (code_bits (get_or codes ((j - 63) / 3) (pos 0))) (11 + (j - 63) % 3) 0 ≡ get_or (block_with codes extra) j 0
  unfolding block_with
  at_rest j l h =
      rest_at codes (j - 63) (omega arith)
      ∙ sym
      (get_or-back (encode block_generator (sound codes)) (rest codes ++ extra) 63 j 0 length-63 l
      ∙ get_d_front (rest codes) extra 12 (j - 63) 0 length-12 (omega arith))

  pub at-extra : (j : ℕ) → 75 ≤ j → get_or extra (j - 75) 0 ≡ get_or (block_with codes extra) j 0
  unfolding block_with
  at-extra j l =
      let two : j - 63 - 12 ≡ j - 75 = omega arith in
      sym
      (get_or-back (encode block_generator (sound codes)) (rest codes ++ extra) 63 j 0 length-63 (omega arith)
      ∙ get_or-back (rest codes) extra 12 (j - 63) 0 length-12 (omega arith) ∙ ap (λ (n : ℕ). get_or extra n 0) two)

-- ---- a channel's bits taken out of a block
module _ (block : List ℕ) (size : length block ≡ 77) (c : ℕ) (h : c < 4) where
  length-11 : length (take 11 (drop (11 * c) block)) ≡ 11
  length-11 = length-take-le 11 (drop (11 * c) block) (omega (arith, length-drop (11 * c) block))

  length-3 : length (take 3 (drop (63 + 3 * c) block)) ≡ 3
  length-3 = length-take-le 3 (drop (63 + 3 * c) block) (omega (arith, length-drop (63 + 3 * c) block))

  pub length-fourteen : length (fourteen block c) ≡ 14
  unfolding fourteen
  length-fourteen = length-append (take 11 (drop (11 * c) block)) (take 3 (drop (63 + 3 * c) block)) ∙ omega (arith, length-11, length-3)

  pub below-fourteen : Below 2 block → Below 2 (fourteen block c)
  unfolding fourteen
  below-fourteen b =
      below-append 2 (take 11 (drop (11 * c) block)) (take 3 (drop (63 + 3 * c) block))
      (below-take 2 11 (drop (11 * c) block) (below-drop 2 (11 * c) block b))
      (below-take 2 3 (drop (63 + 3 * c) block) (below-drop 2 (63 + 3 * c) block b))

  fourteen-upper : (k : ℕ) → k < 11 → get_or block (11 * c + k) 0 ≡ get_or (fourteen block c) k 0
  unfolding fourteen
  fourteen-upper k l =
      sym
      (get_d_front (take 11 (drop (11 * c) block)) (take 3 (drop (63 + 3 * c) block)) 11 k 0 length-11 l
      ∙ get_or-take 11 (drop (11 * c) block) k 0 l ∙ get_or-drop (11 * c) block k 0)

  fourteen-lower : (k : ℕ) → 11 ≤ k → k < 14 → get_or block (52 + 3 * c + k) 0 ≡ get_or (fourteen block c) k 0
  unfolding fourteen
  fourteen-lower k l m =
      let at : 63 + 3 * c + (k - 11) ≡ 52 + 3 * c + k = omega arith in
      let near : k - 11 < 3 = omega arith in
      sym
      (get_or-back (take 11 (drop (11 * c) block)) (take 3 (drop (63 + 3 * c) block)) 11 k 0 length-11 l
      ∙ get_or-take 3 (drop (63 + 3 * c) block) (k - 11) 0 near ∙ get_or-drop (63 + 3 * c) block (k - 11) 0 ∙ ap (λ (n : ℕ). get_or block n 0) at)

  pub fourteen-at : (k : ℕ) → k < 14 → get_or block (code_place c k) 0 ≡ get_or (fourteen block c) k 0
  unfolding code_place
  fourteen-at k l =
      either_way (ltb k 11) (λ u. rw u (fourteen-upper k (ltb-true k 11 u))) (λ u. rw u (fourteen-lower k (ltb-false k 11 u) l))
