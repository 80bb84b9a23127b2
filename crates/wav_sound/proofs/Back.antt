-- What comes back from the bytes, and where it stands.
--     Sixteen samples             each sample is a number of 16 bits
--     turn_at                     texts of one length, one behind the other: byte j of text i
--     length-turns                how long they are together
--     sound-at, marks-at          sample and mark of a frame and channel, read back from a programme's bytes in a superframe
--     lost-sound-at, lost-marks-at    those of a lost one: 0, and 255, which no mark gives
--     sound_back, marks-back      all 2,048 samples, and marks from 0 to 4, in order, from the bytes of the sixteen programmes
--     file-sound, file-marks      superframes one behind the other: pair n of the file is frame n mod 64 of superframe n div 64
-- Assumes nothing.
use mathlib.Core.Path.{◌≡◌, refl, sym, ap, ap₂, ◌∙◌, subst}
use mathlib.Core.List.{List, [], ◌∷◌, ◌++◌}
use Prim.Native.Nat.{ℕ, zero, suc, ◌+◌, ◌*◌, ◌-◌, ◌/◌, ◌%◌, ◌<◌, ◌≤◌}
use native.Mathlib.Nat.{not-suc-le-zero, le_of_suc-le-suc, suc-mul, add-zero}
use native.Mathlib.Decide.{dec_le}
use native.Mathlib.Omega.{arith}
use lib.Dec.{ltb}
use lib.IntN.{ℤ, pos}
use lib.ListN.{length, get_or, length-append}
use lib.Signed.{mag}
use borrow.Author.Tests.{lt-ltb, ltb-true}
use Rattle.bits.specs.Table.{tabulate}
use Rattle.bits.proofs.Table.{tab-ext, tab-get_or, get_d_front, get_or-back}
use Rattle.bits.proofs.Tests.{either_way}
use Rattle.sample.specs.Pattern.{pattern_of, signed_of}
use Rattle.sample.proofs.Patterns.{signed-pattern, pattern-below}
use Rattle.text_rows.specs.Turns.{in_turn}
use Rattle.wav.specs.Header.{little}
use Rattle.wav_sound.specs.Sound.{left, sample_bytes, pair_bytes, sound_bytes, mark_byte, pair_marks, mark_bytes, lost_sound, lost_marks, sample_in, mark_in}

abbrev pub Sixteen : List ℤ → Type 0
Sixteen samples = (i : ℕ) → mag (get_or samples i (pos 0)) < 32768

-- ---- texts of one length
module _ (f : ℕ → List ℕ) (k : ℕ) (sized : (i : ℕ) → length (f i) ≡ k) where
  pub length-turns : (n : ℕ) → length (in_turn n f) ≡ n * k
  unfolding in_turn
  length-turns zero = omega arith
  length-turns (suc n) = rw (length-append (in_turn n f) (f n), length-turns n, sized n, suc-mul n k)

  pub turn_at : (n i j d : ℕ) → i < n → j < k → get_or (in_turn n f) (i * k + j) d ≡ get_or (f i) j d
  unfolding in_turn
  turn_at zero i j d h l = absurd (not-suc-le-zero h)
  turn_at (suc n) i j d h l = go (turn_at n i j d) (dec_le (suc i) n)
    where
      go : (i < n → j < k → get_or (in_turn n f) (i * k + j) d ≡ get_or (f i) j d) → Dec (i < n) → get_or (in_turn n f ++ f n) (i * k + j) d ≡ get_or (f i) j d
      go before (yes b) =
          let far : suc i * k ≤ n * k = native.Mathlib.Nat.mul-le-mul_right k b in
          let step = suc-mul i k in
          get_d_front (in_turn n f) (f n) (n * k) (i * k + j) d (length-turns n) (omega arith) ∙ before b l
      go before (no b) =
          let same : i ≡ n = omega arith in
          let past : n * k ≤ i * k + j = rw same (omega arith) in
          let rest : i * k + j - n * k ≡ j = rw same (omega arith) in
          get_or-back (in_turn n f) (f n) (n * k) (i * k + j) d (length-turns n) past ∙ ap₂ (λ (m p : ℕ). get_or (f m) p d) (sym same) rest

-- ---- a superframe
length-sample : (z : ℤ) → length (sample_bytes z) ≡ 2
unfolding sample_bytes little
length-sample z = refl

sample-back : (z : ℤ) → mag z < 32768 → signed_of 32768 (get_or (sample_bytes z) 0 0 + 256 * get_or (sample_bytes z) 1 0) ≡ z
unfolding sample_bytes little
sample-back z h =
    let u : ℕ = pattern_of 32768 z in
    let b : u < 65536 = pattern-below 32768 (omega arith) z in
    let e : u % 256 + 256 * (u / 256 % 256) ≡ u = omega arith in
    ap (signed_of 32768) e ∙ signed-pattern 32768 (omega arith) z h

mark-back : (m : ℕ) → m < 5 → (mark_byte m - 128) / 16 ≡ m
unfolding mark_byte
mark-back m h = rw (lt-ltb m 5 h) (omega arith)

pub never-lost : (m : ℕ) → mark_byte m < 193
unfolding mark_byte
never-lost m = either_way (ltb m 5) (λ e. rw e (omega (arith, ltb-true m 5 e))) (λ e. rw e (omega arith))

read-sample :
    (bytes : List ℕ) (i : ℕ) (z : ℤ) → mag z < 32768 → get_or bytes (2 * i) 0 ≡ get_or (sample_bytes z) 0 0 → get_or bytes (2 * i + 1) 0 ≡ get_or (sample_bytes z) 1 0 →
    sample_in bytes i ≡ z
unfolding sample_in
read-sample bytes i z h low high = ap₂ (λ (a b : ℕ). signed_of 32768 (a + 256 * b)) low high ∙ sample-back z h

module _ (q : ℕ) (samples : List ℤ) where
  length-pair : (f : ℕ) → length (pair_bytes q samples f) ≡ 4
  unfolding pair_bytes sample_bytes little
  length-pair f = refl

  pub length-sound : length (sound_bytes q samples) ≡ 256
  unfolding sound_bytes
  length-sound = length-turns (pair_bytes q samples) 4 length-pair 64

  byte_at : (f j at : ℕ) → f < 64 → j < 4 → at ≡ f * 4 + j → get_or (sound_bytes q samples) at 0 ≡ get_or (pair_bytes q samples f) j 0
  unfolding sound_bytes
  byte_at f j at h l e = rw e (turn_at (pair_bytes q samples) 4 length-pair 64 f j 0 h l)

  pub sound-at : Sixteen samples → (f s : ℕ) → f < 64 → s < 2 → sample_in (sound_bytes q samples) (2 * f + s) ≡ get_or samples (left q f + s) (pos 0)
  unfolding pair_bytes sample_bytes little
  sound-at small f zero h l =
      let z : ℤ = get_or samples (left q f) (pos 0) in
      ap (sample_in (sound_bytes q samples)) (add-zero (2 * f))
      ∙ read-sample (sound_bytes q samples) (2 * f) z (small (left q f))
      (byte_at f 0 (2 * (2 * f)) h (omega arith) (omega arith))
      (byte_at f 1 (2 * (2 * f) + 1) h (omega arith) (omega arith))
      ∙ ap (λ (n : ℕ). get_or samples n (pos 0)) (sym (add-zero (left q f)))
  sound-at small f (suc zero) h l =
      let z : ℤ = get_or samples (left q f + 1) (pos 0) in
      read-sample (sound_bytes q samples) (2 * f + 1) z (small (left q f + 1))
      (byte_at f 2 (2 * (2 * f + 1)) h (omega arith) (omega arith))
      (byte_at f 3 (2 * (2 * f + 1) + 1) h (omega arith) (omega arith))
  sound-at small f (suc (suc s)) h l = absurd (not-suc-le-zero (le_of_suc-le-suc (le_of_suc-le-suc l)))

module _ (q : ℕ) (marks : List ℕ) where
  length_two : (f : ℕ) → length (pair_marks q marks f) ≡ 2
  unfolding pair_marks
  length_two f = refl

  pub length-marks : length (mark_bytes q marks) ≡ 128
  unfolding mark_bytes
  length-marks = length-turns (pair_marks q marks) 2 length_two 64

  -- the byte of a mark, whatever it is
  pub mark-at : (f s : ℕ) → f < 64 → s < 2 → get_or (mark_bytes q marks) (2 * f + s) 0 ≡ mark_byte (get_or marks (left q f + s) 0)
  unfolding mark_bytes pair_marks
  mark-at f zero h l =
      let e : 2 * f + 0 ≡ f * 2 + 0 = omega arith in
      rw (e, add-zero (left q f)) (turn_at (pair_marks q marks) 2 length_two 64 f 0 0 h (omega arith))
  mark-at f (suc zero) h l =
      let e : 2 * f + 1 ≡ f * 2 + 1 = omega arith in
      rw e (turn_at (pair_marks q marks) 2 length_two 64 f 1 0 h (omega arith))
  mark-at f (suc (suc s)) h l = absurd (not-suc-le-zero (le_of_suc-le-suc (le_of_suc-le-suc l)))

  pub marks-at : (f s : ℕ) → f < 64 → s < 2 → get_or marks (left q f + s) 0 < 5 → mark_in (mark_bytes q marks) (2 * f + s) ≡ get_or marks (left q f + s) 0
  unfolding mark_in
  marks-at f s h l m = ap (λ (b : ℕ). (b - 128) / 16) (mark-at f s h l) ∙ mark-back (get_or marks (left q f + s) 0) m

-- ---- a lost superframe
pub length-lost-sound : length lost_sound ≡ 256
unfolding lost_sound
length-lost-sound = length-turns (λ i. 0 ∷ []) 1 (λ i. refl) 256

pub length-lost-marks : length lost_marks ≡ 128
unfolding lost_marks
length-lost-marks = length-turns (λ i. 255 ∷ []) 1 (λ i. refl) 128

lost-byte : (b n i : ℕ) → i < n → get_or (in_turn n (λ i. b ∷ [])) i 0 ≡ b
lost-byte b n i h =
    let e : i ≡ i * 1 + 0 = omega arith in
    ap (λ (p : ℕ). get_or (in_turn n (λ i. b ∷ [])) p 0) e ∙ turn_at (λ i. b ∷ []) 1 (λ i. refl) n i 0 0 h (omega arith)

pub lost-marks-at : (i : ℕ) → i < 128 → get_or lost_marks i 0 ≡ 255
unfolding lost_marks
lost-marks-at i h = lost-byte 255 128 i h

pub lost-sound-at : (i : ℕ) → i < 128 → sample_in lost_sound i ≡ pos 0
unfolding lost_sound sample_in signed_of
lost-sound-at i h = rw (lost-byte 0 256 (2 * i) (omega arith), lost-byte 0 256 (2 * i + 1) (omega arith))

-- ---- all of a superframe
place-channel : (i : ℕ) → left (i % 32 / 2 + 1) (i / 32) + i % 2 ≡ i
place-channel i = omega arith

pub sound_back :
    (samples : List ℤ) → length samples ≡ 2048 → Sixteen samples →
    tabulate 2048 (λ i. sample_in (sound_bytes (i % 32 / 2 + 1) samples) (2 * (i / 32) + i % 2)) ≡ samples
sound_back samples all small =
    tab-ext 2048 (λ i. sample_in (sound_bytes (i % 32 / 2 + 1) samples) (2 * (i / 32) + i % 2)) (λ i. get_or samples i (pos 0))
    (λ i h.
    sound-at (i % 32 / 2 + 1) samples small (i / 32) (i % 2) (omega arith) (omega arith)
    ∙ ap (λ (n : ℕ). get_or samples n (pos 0)) (place-channel i))
    ∙ sym (tab-get_or 2048 samples (pos 0) all)

pub marks-back :
    (marks : List ℕ) → length marks ≡ 2048 → ((i : ℕ) → i < 2048 → get_or marks i 0 < 5) →
    tabulate 2048 (λ i. mark_in (mark_bytes (i % 32 / 2 + 1) marks) (2 * (i / 32) + i % 2)) ≡ marks
marks-back marks all small =
    tab-ext 2048 (λ i. mark_in (mark_bytes (i % 32 / 2 + 1) marks) (2 * (i / 32) + i % 2)) (λ i. get_or marks i 0)
    (λ i h.
    let place = place-channel i in
    marks-at (i % 32 / 2 + 1) marks (i / 32) (i % 2) (omega arith) (omega arith)
    (subst (λ (n : ℕ). get_or marks n 0 < 5) (sym place) (small i h))
    ∙ ap (λ (n : ℕ). get_or marks n 0) place)
    ∙ sym (tab-get_or 2048 marks 0 all)

-- ---- superframes one behind the other
module _ (parts : ℕ → List ℕ) (count n s : ℕ) (within : n < 64 * count) (side : s < 2) where
  pub file-sound : ((k : ℕ) → length (parts k) ≡ 256) → sample_in (in_turn count parts) (2 * n + s) ≡ sample_in (parts (n / 64)) (2 * (n % 64) + s)
  unfolding sample_in
  file-sound sized =
      let a : 2 * (2 * n + s) ≡ n / 64 * 256 + 2 * (2 * (n % 64) + s) = omega arith in
      let b : 2 * (2 * n + s) + 1 ≡ n / 64 * 256 + (2 * (2 * (n % 64) + s) + 1) = omega arith in
      rw (
        b,
        a,
        turn_at parts 256 sized count (n / 64) (2 * (2 * (n % 64) + s)) 0 (omega arith) (omega arith),
        turn_at parts 256 sized count (n / 64) (2 * (2 * (n % 64) + s) + 1) 0 (omega arith) (omega arith),
      )

  pub file-marks : ((k : ℕ) → length (parts k) ≡ 128) → get_or (in_turn count parts) (2 * n + s) 0 ≡ get_or (parts (n / 64)) (2 * (n % 64) + s) 0
  file-marks sized =
      let a : 2 * n + s ≡ n / 64 * 128 + (2 * (n % 64) + s) = omega arith in
      rw a (turn_at parts 128 sized count (n / 64) (2 * (n % 64) + s) 0 (omega arith) (omega arith))
