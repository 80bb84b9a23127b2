-- Two blocks that read alike.
--     same_code             with the same bits where the codes stand, they have the same codes
--     early, late           what stands in lists with the same first n elements, or the same from n on
--     said_same, code_same  two blocks that differ in their extra bits alone have one reading, and the codes that are handed on are the same
-- Assumes nothing.
use mathlib.Core.Path.{◌≡◌, sym, ap, ◌∙◌}
use mathlib.Core.List.{List, ◌++◌}
use Prim.Native.Nat.{ℕ, ◌+◌, ◌-◌, ◌*◌, ◌<◌, ◌≤◌}
use native.Mathlib.Omega.{arith}
use borrow.Author.Tests.{ltb-true, ltb-false}
use lib.Dec.{ltb}
use lib.ListN.{length, get_or, take, drop, length-append, length-drop}
use lib.Seq.{ext_get_or, get_or-take, get_or-drop, length-take-le}
use Rattle.bits.proofs.Table.{get_d_front}
use Rattle.bits.proofs.Tests.{either_way}
use Rattle.sample.specs.Pattern.{bits_code}
use Rattle.reading.specs.Reading.{handed, largest_radius}
use Rattle.reading.specs.Search.{reading}
use Rattle.block.specs.Layout.{fourteen, code_place}
use Rattle.block.specs.Read.{said, protected, handed_on}
use Rattle.block.specs.Demand.{IsBlock}
use Rattle.block.proofs.Places.{length-fourteen, fourteen-at}
use Rattle.block.proofs.Demand.{read_meets, second_at}
use Rattle.block_codes.specs.Codes.{code_at}

module _ (x y : List ℕ) (n : ℕ) where
  pub early : take n x ≡ take n y → (p : ℕ) → p < n → get_or x p 0 ≡ get_or y p 0
  early e p h = sym (get_or-take n x p 0 h) ∙ ap (λ (l : List ℕ). get_or l p 0) e ∙ get_or-take n y p 0 h

  pub late : drop n x ≡ drop n y → (p : ℕ) → n ≤ p → get_or x p 0 ≡ get_or y p 0
  late e p h =
      let at : n + (p - n) ≡ p = omega arith in
      ap (λ (i : ℕ). get_or x i 0) (sym at)
      ∙ sym (get_or-drop n x (p - n) 0) ∙ ap (λ (l : List ℕ). get_or l (p - n) 0) e ∙ get_or-drop n y (p - n) 0
      ∙ ap (λ (i : ℕ). get_or y i 0) at

-- the upper bits of the codes stand in the first 44 places, the lower ones in the twelve from 63 on
module _ (x y : List ℕ) (size : length x ≡ 77) (size' : length y ≡ 77)
    (upper : (p : ℕ) → p < 44 → get_or x p 0 ≡ get_or y p 0) (lower : (p : ℕ) → 63 ≤ p → p < 75 → get_or x p 0 ≡ get_or y p 0) where
  same_place : (c k : ℕ) → c < 4 → k < 14 → get_or x (code_place c k) 0 ≡ get_or y (code_place c k) 0
  unfolding code_place
  same_place c k h l =
      either_way (ltb k 11)
      (λ t. let u : k < 11 = ltb-true k 11 t in rw t (upper (11 * c + k) (omega arith)))
      (λ t. let u : 11 ≤ k = ltb-false k 11 t in rw t (lower (52 + 3 * c + k) (omega arith) (omega arith)))

  pub same_code : (c : ℕ) → c < 4 → code_at x c ≡ code_at y c
  unfolding code_at
  same_code c h =
      let long = length-fourteen x size c h in
      let long' = length-fourteen y size' c h in
      ap bits_code
      (ext_get_or 0 (fourteen x c) (fourteen y c) (long ∙ sym long')
      (λ k l.
      let within : k < 14 = omega arith in
      sym (fourteen-at x size c h k within) ∙ same_place c k h within ∙ fourteen-at y size' c h k within))

-- a block as it is handed on
module _ (radius : ℕ) (small : radius ≤ largest_radius) (x : List ℕ) (b : IsBlock x) where
  abbrev front : List ℕ
  front = handed (protected x) (reading radius (protected x))

  in_parts : handed_on radius x ≡ front ++ drop 63 x
  in_parts = (read_meets x b radius).hands

  behind : drop 63 (handed_on radius x) ≡ drop 63 x
  behind = (second_at radius small).others x b.size

  long : length (handed_on radius x) ≡ 77
  long = omega (arith, length-drop 63 (handed_on radius x), ap length behind, length-drop 63 x, b.size)

  front_long : length front ≡ 63
  front_long = omega (arith, ap length in_parts, length-append front (drop 63 x), length-drop 63 x, long, b.size)

  in-front : (p : ℕ) → p < 63 → get_or (handed_on radius x) p 0 ≡ get_or front p 0
  in-front p h = ap (λ (l : List ℕ). get_or l p 0) in_parts ∙ get_d_front front (drop 63 x) 63 p 0 front_long h

  in_rest : (p : ℕ) → 63 ≤ p → get_or (handed_on radius x) p 0 ≡ get_or x p 0
  in_rest = late (handed_on radius x) x 63 behind

module _ (radius : ℕ) (small : radius ≤ largest_radius) (x y : List ℕ) (b : IsBlock x) (b' : IsBlock y) (same : (j : ℕ) → j < 75 → get_or x j 0 ≡ get_or y j 0) where
  word_same : protected x ≡ protected y
  word_same =
      let size = length-take-le 63 x (omega (arith, b.size)) in
      let size' = length-take-le 63 y (omega (arith, b'.size)) in
      ext_get_or 0 (take 63 x) (take 63 y) (size ∙ sym size')
      (λ j l. let within : j < 63 = omega arith in get_or-take 63 x j 0 within ∙ same j (omega arith) ∙ sym (get_or-take 63 y j 0 within))

  pub said_same : said (reading radius (protected x)) ≡ said (reading radius (protected y))
  said_same = ap (λ (w : List ℕ). said (reading radius w)) word_same

  pub code_same : (c : ℕ) → c < 4 → code_at (handed_on radius x) c ≡ code_at (handed_on radius y) c
  code_same =
      same_code (handed_on radius x) (handed_on radius y) (long radius small x b) (long radius small y b')
      (λ p h.
      let within : p < 63 = omega arith in
      in-front radius small x b p within ∙ ap (λ (w : List ℕ). get_or (handed w (reading radius w)) p 0) word_same ∙ sym (in-front radius small y b' p within))
      (λ p h l. in_rest radius small x b p h ∙ same p l ∙ sym (in_rest radius small y b' p h))
