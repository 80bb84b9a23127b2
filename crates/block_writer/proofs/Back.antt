-- What is written reads back, and what reads clean is what is written.
--     written_is                       the writer's answer, from four codes and two extra bits in range
--     written-clean, written-kept      what is written reads clean, and is handed on as it is
--     written-codes                    and gives its codes and extra bits back
--     clean-written                    77 bits that read clean are what the writer makes of their codes and extra bits
-- Assumes nothing.
use mathlib.Core.Path.{◌≡◌, sym, ap, ap₂, ◌∙◌, subst}
use mathlib.Core.Bool.{true}
use mathlib.Core.List.{List, [], ◌∷◌, ◌++◌}
use Prim.Native.Nat.{ℕ, ◌+◌, ◌-◌, ◌*◌, ◌/◌, ◌%◌, ◌<◌, ◌≤◌}
use native.Mathlib.Omega.{arith}
use borrow.Author.Tests.{ltb-true, ltb-false, lt-ltb, le-ltb}
use lib.Dec.{ltb}
use lib.IntN.{ℤ, pos}
use lib.ListN.{length, get_or, take, drop, length-drop, take-append-drop}
use lib.Seq.{ext_get_or, get_or-take, get_or-drop, length-take-le, take_at, drop_at, take-take, drop-drop}
use Rattle.std.specs.declared.result.Result.TheVariants.{Ok}
use Rattle.bits.specs.Table.{every}
use Rattle.bits.specs.Bits.{are_bits}
use Rattle.bits.specs.Digits.{Below}
use Rattle.bits.specs.Answer.{accepted}
use Rattle.bits.proofs.Table.{length-tab, get_or-tab, tab-ext, tab-get_or}
use Rattle.bits.proofs.Tests.{either_way}
use Rattle.bits.proofs.Every.{every-each, every-tab}
use Rattle.bits.proofs.Bits.{bits_below, below-bits}
use Rattle.bits.proofs.Digits.{below-append, below-drop}
use Rattle.code.specs.Generators.{block_generator}
use Rattle.code.specs.Words.{Word, CodeWord, encode}
use Rattle.code.proofs.Words.{encode-word}
use Rattle.sample.specs.Sample.{is_code}
use Rattle.sample.specs.Pattern.{code_bits, bits_code}
use Rattle.sample.proofs.Patterns.{signed-inside, code-bits-back, bits-code-back, length-code_bits}
use Rattle.reading.specs.Reading.{largest_radius}
use Rattle.block.specs.Layout.{sound, rest, block_with, fourteen, code_place}
use Rattle.block.specs.Read.{clean, protected, said_of, handed_on}
use Rattle.block.specs.Demand.{IsBlock}
use Rattle.block.proofs.Places.{length-sound, below-sound, sound-at, length_rest, below_rest, rest_at, length-63, length-block, at-sound, at_rest, length-fourteen, below-fourteen, fourteen-at}
use Rattle.block.proofs.Demand.{heard, clean-hands, clean-word, word-clean}
use Rattle.block_codes.specs.Codes.{code_at, codes_at, extra_at, codes_of}
use Rattle.block_writer.specs.Written.{written_block}

-- ---- what is written
pub written_is : (codes : List ℤ) (extra : List ℕ) → every is_code codes ≡ true → are_bits extra ≡ true → written_block codes extra ≡ Ok (block_with codes extra)
unfolding written_block
written_is codes extra good bits = rw (good, bits)

module _ (codes : List ℤ) (extra : List ℕ) (four : length codes ≡ 4) (two : length extra ≡ 2) (good : every is_code codes ≡ true) (bits : are_bits extra ≡ true) where
  abbrev block : List ℕ
  block = block_with codes extra

  abbrev code : ℕ → ℤ
  code c = get_or codes c (pos 0)

  word : CodeWord (encode block_generator (sound codes))
  word = encode-word 44 block_generator (sound codes) (below-sound codes) (length-sound codes ∙ omega arith)

  is_block : IsBlock block
  unfolding block_with
  is_block =
      record {
        size = length-block codes extra four ∙ omega arith;
        bits =
            below-bits block
            (below-append 2 (encode block_generator (sound codes)) (rest codes ++ extra) word.bits
            (below-append 2 (rest codes) extra (below_rest codes) (bits_below extra bits)));
      }

  pub written-clean : (radius : ℕ) → radius ≤ largest_radius → said_of radius block ≡ accepted (clean ∷ [])
  unfolding block_with
  written-clean radius small =
      word-clean radius small block is_block (subst CodeWord (sym (take_at (encode block_generator (sound codes)) (rest codes ++ extra) 63 (length-63 codes extra four))) word)

  pub written-kept : (radius : ℕ) → radius ≤ largest_radius → handed_on radius block ≡ block
  written-kept radius small = clean-hands radius block (written-clean radius small)

  -- bit k of channel c, at its place
  at-upper : (c k : ℕ) → c < 4 → k < 11 → get_or block (11 * c + k) 0 ≡ get_or (code_bits (code c)) k 0
  at-upper c k h l =
      let i : (11 * c + k) / 11 ≡ c = omega arith in
      let j : (11 * c + k) % 11 ≡ k = omega arith in
      sym (at-sound codes extra four (11 * c + k) (omega arith)) ∙ sym (sound-at codes (11 * c + k) (omega arith)) ∙ rw (i, j)

  at-lower : (c k : ℕ) → c < 4 → 11 ≤ k → k < 14 → get_or block (52 + 3 * c + k) 0 ≡ get_or (code_bits (code c)) k 0
  at-lower c k h l m =
      let i : (52 + 3 * c + k - 63) / 3 ≡ c = omega arith in
      let j : 11 + (52 + 3 * c + k - 63) % 3 ≡ k = omega arith in
      sym (at_rest codes extra four (52 + 3 * c + k) (omega arith) (omega arith)) ∙ rw (i, j)

  at_place : (c k : ℕ) → c < 4 → k < 14 → get_or block (code_place c k) 0 ≡ get_or (code_bits (code c)) k 0
  unfolding code_place
  at_place c k h l =
      either_way (ltb k 11) (λ u. rw u (at-upper c k h (ltb-true k 11 u))) (λ u. rw u (at-lower c k h (ltb-false k 11 u) l))

  fourteen-back : (c : ℕ) → c < 4 → fourteen block c ≡ code_bits (code c)
  fourteen-back c h =
      let long : length (fourteen block c) ≡ 14 = length-fourteen block is_block.size c h in
      ext_get_or 0 (fourteen block c) (code_bits (code c)) (long ∙ sym (length-code_bits (code c)))
      (λ k l. let m : k < 14 = omega arith in sym (fourteen-at block is_block.size c h k m) ∙ at_place c k h m)

  codes-back : codes_at block ≡ codes
  unfolding codes_at code_at
  codes-back =
      tab-ext 4 (code_at block) code
      (λ c h. ap bits_code (fourteen-back c h) ∙ code-bits-back (code c) (every-each is_code codes c (pos 0) good (omega arith)))
      ∙ sym (tab-get_or 4 codes (pos 0) four)

  extra-back : extra_at block ≡ extra
  unfolding extra_at block_with
  extra-back =
      sym (drop-drop 12 63 block) ∙ ap (drop 12) (drop_at (encode block_generator (sound codes)) (rest codes ++ extra) 63 (length-63 codes extra four))
      ∙ drop_at (rest codes) extra 12 (length_rest codes ∙ omega arith)

  pub written-codes : codes_of block ≡ Ok (record { codes = codes; extra = extra })
  unfolding codes_of
  written-codes = rw (is_block.bits, codes-back, extra-back)

-- ---- what reads clean
-- a word is made of its message bits
word-encode : (k : ℕ) (g w : List ℕ) → Word k g w → encode g (take k w) ≡ w
unfolding encode
word-encode k g w h = ap (λ (l : List ℕ). take k w ++ l) (sym h.checked) ∙ take-append-drop k w

module _ (block : List ℕ) (b : IsBlock block) where
  below : Below 2 block
  below = bits_below block b.bits

  abbrev read : List ℤ
  read = codes_at block

  four : length read ≡ 4
  unfolding codes_at
  four = length-tab 4 (code_at block)

  good : every is_code read ≡ true
  unfolding codes_at code_at bits_code
  good = every-tab is_code 4 (code_at block) (λ c h. signed-inside _)

  -- the bits of a code that was read are the channel's, at their places
  read_at : (c k : ℕ) → c < 4 → k < 14 → get_or (code_bits (get_or read c (pos 0))) k 0 ≡ get_or block (code_place c k) 0
  unfolding codes_at code_at
  read_at c k h l =
      ap (λ (z : ℤ). get_or (code_bits z) k 0) (get_or-tab 4 (code_at block) c (pos 0) h)
      ∙ ap (λ (bits : List ℕ). get_or bits k 0)
      (bits-code-back (fourteen block c) (below-fourteen block b.size c h below) (length-fourteen block b.size c h))
      ∙ sym (fourteen-at block b.size c h k l)

  sound-same : sound read ≡ take 44 block
  unfolding code_place
  sound-same =
      let long : length (sound read) ≡ 44 = length-sound read ∙ omega (arith, four) in
      ext_get_or 0 (sound read) (take 44 block) (long ∙ sym (length-take-le 44 block (omega (arith, b.size))))
      (λ j h.
      let l : j < 44 = omega arith in
      let k : j % 11 < 11 = omega arith in
      let at : 11 * (j / 11) + j % 11 ≡ j = omega arith in
      sym (sound-at read j (omega (arith, four))) ∙ read_at (j / 11) (j % 11) (omega arith) (omega arith)
      ∙ rw (lt-ltb (j % 11) 11 k, at, get_or-take 44 block j 0 l))

  rest-same : rest read ≡ take 12 (drop 63 block)
  unfolding code_place
  rest-same =
      let long : length (rest read) ≡ 12 = length_rest read ∙ omega (arith, four) in
      ext_get_or 0 (rest read) (take 12 (drop 63 block)) (long ∙ sym (length-take-le 12 (drop 63 block) (omega (arith, b.size, length-drop 63 block))))
      (λ j h.
      let l : j < 12 = omega arith in
      let k : 11 ≤ 11 + j % 3 = omega arith in
      let at : 52 + 3 * (j / 3) + (11 + j % 3) ≡ 63 + j = omega arith in
      sym (rest_at read j (omega (arith, four))) ∙ read_at (j / 3) (11 + j % 3) (omega arith) (omega arith)
      ∙ rw (le-ltb (11 + j % 3) 11 k, at, get_or-take 12 (drop 63 block) j 0 l, get_or-drop 63 block j 0))

  clean-block : CodeWord (protected block) → block_with read (extra_at block) ≡ block
  unfolding block_with extra_at
  clean-block w =
      ap₂ ◌++◌
      (ap (encode block_generator) (sound-same ∙ sym (take-take 44 63 block (omega arith))) ∙ word-encode 44 block_generator (protected block) w)
      (ap₂ ◌++◌ rest-same (sym (drop-drop 12 63 block)) ∙ take-append-drop 12 (drop 63 block))
      ∙ take-append-drop 63 block

  clean_is : CodeWord (protected block) → written_block read (extra_at block) ≡ Ok block
  unfolding extra_at
  clean_is w =
      written_is read (extra_at block) good (below-bits (extra_at block) (below-drop 2 75 block below))
      ∙ ap Ok (clean-block w)

pub clean-written : (radius : ℕ) → radius ≤ largest_radius → (block : List ℕ) → length block ≡ 77 → said_of radius block ≡ accepted (clean ∷ []) → written_block (codes_at block) (extra_at block) ≡ Ok block
clean-written radius small block size e =
    let b : IsBlock block = record { size = size; bits = (heard radius block clean e).0 } in
    clean_is block b (clean-word radius small block b e)
