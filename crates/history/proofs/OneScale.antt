-- Two superframes that differ in the 42 scale bits of one programme alone: everything else that is read of them is the same.
--     sync-same, wrong-sum-same     the 128 syncs, and their wrong bits added
--     reading-same, code_same   every reading, and every code that is handed on
--     extra-same, word_same     the extra bits of every other programme, and the programme's own information word
--     six-same              the six service bytes and their sync
-- Assumes nothing.
use mathlib.Core.Path.{◌≡◌, refl, sym, ap, ap₂, ◌∙◌}
use mathlib.Core.Logic.{◌≢◌}
use mathlib.Core.List.{List}
use Prim.Native.Nat.{ℕ, ◌+◌, ◌-◌, ◌*◌, ◌/◌, ◌%◌, ◌<◌, ◌≤◌}
use native.Mathlib.Omega.{arith}
use lib.Dec.{leb}
use lib.ListN.{length, get_or, drop}
use lib.Seq.{ext_get_or, get_or-drop}
use Rattle.bits.specs.Table.{tabulate, every}
use Rattle.bits.specs.Bits.{bit_at}
use Rattle.bits.specs.Digits.{value}
use Rattle.bits.proofs.Table.{length-tab, get_or-tab, tab-ext}
use Rattle.code.specs.Words.{distance}
use Rattle.reading.specs.Reading.{largest_radius}
use Rattle.block.specs.Read.{handed_on}
use Rattle.block.specs.Demand.{IsBlock}
use Rattle.block_codes.specs.Codes.{code_at}
use Rattle.nearest.specs.Extra.{information}
use Rattle.frame.specs.Frame.{sync_word, place_of, deinterleave}
use Rattle.frame.specs.Read.{wrong_sync, most_wrong, block_of}
use Rattle.frame.proofs.Places.{place-once}
use Rattle.tape.specs.Tape.{frame_at, letter_of, wrong_at, wrong_bits, synced, block_in, reading_in}
use Rattle.tape.specs.Document.{Carries, a_first, a_second, b-first, b-second}
use Rattle.tape.proofs.Tape.{block-there, block-bits, reading-there}
use Rattle.tape.proofs.Wrong.{sum-ext}
use Rattle.beside.specs.Beside.{extra_bit, extra_bits, service_bit, service_bits, six_and_sync}
use Rattle.beside.specs.Document.{extra_number, ScaleBit, OnlyScale}
use Rattle.beside.proofs.Carried.{frame-bit, block-bit, extra-there, service-there}
use Rattle.history.proofs.Same as blocks

-- ---- where a scale bit stands
record Stands (q f b frame place : ℕ) : Type 0 where
  programme : place - 1 ≡ (q - 1) % 2
  block : b - 1 ≡ (q - 1) / 2 % 4
  main : frame - 1 ≡ f - 1 + 64 * ((q - 1) / 2 / 4)
  small : (1 ≤ place) × (place ≤ 2)

stands : (q f b frame place : ℕ) → 1 ≤ f → 1 ≤ b → b ≤ 4 → Carries f b q frame place → Stands q f b frame place
stands q f b frame place k l u carried = by_place b k l u q frame place carried
  where
    by_place : (b : ℕ) → 1 ≤ f → 1 ≤ b → b ≤ 4 → (q frame place : ℕ) → Carries f b q frame place → Stands q f b frame place
    by_place b k l u q frame place a_first = record { programme = omega arith; block = omega arith; main = omega arith; small = (omega arith, omega arith) }
    by_place b k l u q frame place a_second = record { programme = omega arith; block = omega arith; main = omega arith; small = (omega arith, omega arith) }
    by_place b k l u q frame place b-first = record { programme = omega arith; block = omega arith; main = omega arith; small = (omega arith, omega arith) }
    by_place b k l u q frame place b-second = record { programme = omega arith; block = omega arith; main = omega arith; small = (omega arith, omega arith) }

-- a bit of a superframe, by its main frame and its place there
apart : (a a' x x' : ℕ) → x < 320 → x' < 320 → 320 * a + x ≡ 320 * a' + x' → (a ≡ a') × (x ≡ x')
apart a a' x x' h h' e = (omega arith, omega arith)

record Where (q a x : ℕ) : Type 0 where
  f : ℕ
  few : f < 42
  main : a ≡ f + 64 * ((q - 1) / 2 / 4)
  place : x ≡ place_of ((q - 1) / 2 % 4) (75 + (q - 1) % 2)

where-is : (q a x : ℕ) → x < 320 → ScaleBit q (320 * a + x) → Where q a x
where-is q a x h s =
    let t = stands q s.f s.b s.frame s.place s.first s.low s.high s.carries in
    let bit : extra_number s.place - 1 ≡ 75 + (q - 1) % 2 = omega (arith, t.programme, t.small.0) in
    let inside : place_of (s.b - 1) (extra_number s.place - 1) < 320 = omega (arith, s.high, t.small.1) in
    let parts = apart a (s.frame - 1) x (place_of (s.b - 1) (extra_number s.place - 1)) h inside s.at in
    record {
      f = s.f - 1;
      few = omega (arith, s.first, s.last);
      main = parts.0 ∙ t.main;
      place = parts.1 ∙ ap₂ place_of t.block bit;
    }

-- the place of a bit of a block tells the block and the bit
bit-of-place : (b j b' j' : ℕ) → b < 4 → j < 77 → b' < 4 → j' < 77 → place_of b j ≡ place_of b' j' → (b ≡ b') × (j ≡ j')
bit-of-place b j b' j' h l h' l' e =
    let one = place-once (place_of b j) b j (record { block-there = h; bit-there = l; place = refl }) in
    let two = place-once (place_of b j) b' j' (record { block-there = h'; bit-there = l'; place = sym e }) in
    (one.0 ∙ sym two.0, one.1 ∙ sym two.1)

-- ---- what is the same
module _ (q : ℕ) (k : 1 ≤ q) (l : q ≤ 16) (sf sf' : List ℕ) (d : OnlyScale q sf sf') where
  -- a bit of a main frame, at a place where no scale bit of the programme stands
  bit-same : (a x : ℕ) → x < 320 → (Where q a x → ⊥) → bit_at (frame_at sf a) x ≡ bit_at (frame_at sf' a) x
  bit-same a x h none = sym (frame-bit sf a x h) ∙ d.same (320 * a + x) (λ s. none (where-is q a x h s)) ∙ frame-bit sf' a x h

  -- sync and service bit
  head-same : (a x : ℕ) → x < 12 → bit_at (frame_at sf a) x ≡ bit_at (frame_at sf' a) x
  head-same a x h = bit-same a x (omega arith) (λ w. omega (arith, w.place))

  wrong-same : (a : ℕ) → wrong_at sf a ≡ wrong_at sf' a
  unfolding wrong_at wrong_sync
  wrong-same a =
      ap (distance (sync_word (letter_of a))) (tab-ext 11 (bit_at (frame_at sf a)) (bit_at (frame_at sf' a)) (λ i h. head-same a i (omega arith)))

  pub sync-same : synced sf ≡ synced sf'
  unfolding synced
  sync-same = ap (every (λ n. leb n most_wrong)) (tab-ext 128 (wrong_at sf) (wrong_at sf') (λ a h. wrong-same a))

  pub wrong-sum-same : wrong_bits sf ≡ wrong_bits sf'
  unfolding wrong_bits
  wrong-sum-same = sum-ext 128 (wrong_at sf) (wrong_at sf') (λ a h. wrong-same a)

  service-same : (f : ℕ) → service_bit sf f ≡ service_bit sf' f
  service-same f = sym (service-there sf f) ∙ frame-bit sf f 11 (omega arith) ∙ head-same f 11 (omega arith) ∙ sym (frame-bit sf' f 11 (omega arith)) ∙ service-there sf' f

  pub six-same : six_and_sync sf ≡ six_and_sync sf'
  unfolding six_and_sync service_bits
  six-same =
      let same = tab-ext 64 (service_bit sf) (service_bit sf') (λ f h. service-same f) in
      rw same

  -- blocks, but for their extra bits
  block_same : (f p j : ℕ) → p < 8 → j < 75 → get_or (block_in sf f p) j 0 ≡ get_or (block_in sf' f p) j 0
  block_same f p j h m =
      block-bit sf f p j (omega arith)
      ∙ bit-same (f + 64 * (p / 4)) (place_of (p % 4) j) (omega arith)
      (λ w.
      let same = (bit-of-place (p % 4) j ((q - 1) / 2 % 4) (75 + (q - 1) % 2) (omega arith) (omega arith) (omega arith) (omega arith) w.place).1 in
      omega (arith, same))
      ∙ sym (block-bit sf' f p j (omega arith))

  is_block : (s : List ℕ) (f p : ℕ) → IsBlock (block_in s f p)
  unfolding block_of deinterleave
  is_block s f p =
      record {
        size = rw (block-there s f p, borrow.Author.Tests.lt-ltb (p % 4) 4 (omega arith)) (length-tab 77 _);
        bits = block-bits s f p;
      }

  pub reading-same : (radius : ℕ) → radius ≤ largest_radius → (f p : ℕ) → f < 64 → p < 8 → reading_in radius sf f p ≡ reading_in radius sf' f p
  reading-same radius small f p h m =
      reading-there radius sf f p h m
      ∙ blocks.said_same radius small (block_in sf f p) (block_in sf' f p) (is_block sf f p) (is_block sf' f p) (λ j u. block_same f p j m u)
      ∙ sym (reading-there radius sf' f p h m)

  pub code_same : (radius : ℕ) → radius ≤ largest_radius → (f p c : ℕ) → p < 8 → c < 4
      → code_at (handed_on radius (block_in sf f p)) c ≡ code_at (handed_on radius (block_in sf' f p)) c
  code_same radius small f p c m = blocks.code_same radius small (block_in sf f p) (block_in sf' f p) (is_block sf f p) (is_block sf' f p) (λ j u. block_same f p j m u) c

  -- extra bits: those of other programmes, and from the 43rd frame on
  extra-bit-same : (r f : ℕ) → r < 16 → f < 64 → (r ≡ q - 1 → 42 ≤ f) → extra_bit sf r f ≡ extra_bit sf' r f
  extra-bit-same r f h m other =
      sym (extra-there sf r f)
      ∙ frame-bit sf (f + 64 * (r / 2 / 4)) (place_of (r / 2 % 4) (75 + r % 2)) (omega arith)
      ∙ bit-same (f + 64 * (r / 2 / 4)) (place_of (r / 2 % 4) (75 + r % 2)) (omega arith) clash
      ∙ sym (frame-bit sf' (f + 64 * (r / 2 / 4)) (place_of (r / 2 % 4) (75 + r % 2)) (omega arith))
      ∙ extra-there sf' r f
    where
      clash : Where q (f + 64 * (r / 2 / 4)) (place_of (r / 2 % 4) (75 + r % 2)) → ⊥
      clash w =
          let same = bit-of-place (r / 2 % 4) (75 + r % 2) ((q - 1) / 2 % 4) (75 + (q - 1) % 2) (omega arith) (omega arith) (omega arith) (omega arith) w.place in
          let few = w.few in
          let main = w.main in
          let half : r / 2 / 4 ≡ (q - 1) / 2 / 4 = omega arith in
          let frame : f ≡ w.f = omega arith in
          let mine : r ≡ q - 1 = omega (arith, same.0, same.1) in
          omega (arith, other mine)

  pub extra-same : (r : ℕ) → r < 16 → r ≢ q - 1 → extra_bits sf r ≡ extra_bits sf' r
  unfolding extra_bits
  extra-same r h other = tab-ext 64 (extra_bit sf r) (extra_bit sf' r) (λ f m. extra-bit-same r f h m (λ e. absurd (other e)))

  pub word_same : information (extra_bits sf (q - 1)) ≡ information (extra_bits sf' (q - 1))
  unfolding information extra_bits
  word_same =
      ap (value 2)
      (ext_get_or 0 (drop 42 (tabulate 64 (extra_bit sf (q - 1)))) (drop 42 (tabulate 64 (extra_bit sf' (q - 1))))
      (late-long sf ∙ sym (late-long sf'))
      (λ j m.
      let within : 42 + j < 64 = omega (arith, m, late-long sf) in
      late-at sf j within ∙ extra-bit-same (q - 1) (42 + j) (omega arith) within (λ e. omega arith) ∙ sym (late-at sf' j within)))
    where
      late-long : (s : List ℕ) → length (drop 42 (tabulate 64 (extra_bit s (q - 1)))) ≡ 22
      late-long s = lib.ListN.length-drop 42 (tabulate 64 (extra_bit s (q - 1))) ∙ omega (arith, length-tab 64 (extra_bit s (q - 1)))

      late-at : (s : List ℕ) (j : ℕ) → 42 + j < 64 → get_or (drop 42 (tabulate 64 (extra_bit s (q - 1)))) j 0 ≡ extra_bit s (q - 1) (42 + j)
      late-at s j within = get_or-drop 42 (tabulate 64 (extra_bit s (q - 1))) j 0 ∙ get_or-tab 64 (extra_bit s (q - 1)) (42 + j) 0 within
