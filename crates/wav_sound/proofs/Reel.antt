-- Time is true through a whole reel, whatever was lost: pair p of the file, from 0, is frame p mod 64 of superframe p div 64, both from 0 too.
--     handed-sound      its left and its right sample (side 0 and 1) are those of that frame, and 0 where the superframe was lost
--     handed-marks      its two heights are those of their marks, and 255 where the superframe was lost
-- Assumes nothing.
use mathlib.Core.Path.{◌≡◌, ◌∙◌}
use mathlib.Core.Bool.{Bool, cond}
use mathlib.Core.List.{List}
use Prim.Native.Nat.{ℕ, ◌+◌, ◌*◌, ◌/◌, ◌%◌, ◌<◌}
use native.Mathlib.Omega.{arith}
use lib.IntN.{ℤ, pos}
use lib.ListN.{length, get_or}
use Rattle.bits.proofs.Tests.{either_way}
use Rattle.wav_sound.specs.Sound.{left, sound_bytes, mark_byte, mark_bytes, lost_sound, lost_marks, sample_in}
use Rattle.wav_sound.specs.Reel.{sound_file, marks_file}
use Rattle.wav_sound.proofs.Back.{Sixteen, length-sound, sound-at, length-marks, mark-at, length-lost-sound, length-lost-marks, lost-sound-at, lost-marks-at, file-sound, file-marks}

module _ (q : ℕ) (lost : ℕ → Bool) (count p side : ℕ) (within : p < 64 * count) (two : side < 2) where
  module _ (samples : ℕ → List ℤ) where
    sound-sized : (k : ℕ) → length (cond (lost k) lost_sound (sound_bytes q (samples k))) ≡ 256
    sound-sized k = either_way (lost k) (λ e. rw e length-lost-sound) (λ e. rw e (length-sound q (samples k)))

    pub handed-sound :
        ((k : ℕ) → Sixteen (samples k)) →
        sample_in (sound_file q lost samples count) (2 * p + side) ≡ cond (lost (p / 64)) (pos 0) (get_or (samples (p / 64)) (left q (p % 64) + side) (pos 0))
    unfolding sound_file
    handed-sound small =
        file-sound (λ k. cond (lost k) lost_sound (sound_bytes q (samples k))) count p side within two sound-sized
        ∙ either_way (lost (p / 64))
        (λ e. rw e (lost-sound-at (2 * (p % 64) + side) (omega arith)))
        (λ e. rw e (sound-at q (samples (p / 64)) (small (p / 64)) (p % 64) side (omega arith) two))

  module _ (marks : ℕ → List ℕ) where
    marks-sized : (k : ℕ) → length (cond (lost k) lost_marks (mark_bytes q (marks k))) ≡ 128
    marks-sized k = either_way (lost k) (λ e. rw e length-lost-marks) (λ e. rw e (length-marks q (marks k)))

    pub handed-marks :
        get_or (marks_file q lost marks count) (2 * p + side) 0 ≡ cond (lost (p / 64)) 255 (mark_byte (get_or (marks (p / 64)) (left q (p % 64) + side) 0))
    unfolding marks_file
    handed-marks =
        file-marks (λ k. cond (lost k) lost_marks (mark_bytes q (marks k))) count p side within two marks-sized
        ∙ either_way (lost (p / 64))
        (λ e. rw e (lost-marks-at (2 * (p % 64) + side) (omega arith)))
        (λ e. rw e (mark-at q (marks (p / 64)) (p % 64) side (omega arith) two))
