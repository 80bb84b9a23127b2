-- The files of a programme over a whole reel: superframes one behind the other, lost ones among them. Superframes count from 0 here; `lost k` says
-- whether superframe k was lost, and where it was not, `samples k` and `marks k` are its 2,048 samples and marks.
--     sound_file q lost samples n      the bytes behind the header in programme q's file of sound, of n superframes
--     marks_file q lost marks n        the same in its file of marks
use Rattle.std.specs.Prelude.{ℕ, Bool, cond, List, ℤ}
use Rattle.text_rows.specs.Turns.{in_turn}
use Rattle.wav_sound.specs.Sound.{sound_bytes, mark_bytes, lost_sound, lost_marks}

unfoldable pub sound_file : ℕ → (ℕ → Bool) → (ℕ → List ℤ) → ℕ → List ℕ
sound_file q lost samples n = in_turn n (λ k. cond (lost k) lost_sound (sound_bytes q (samples k)))

unfoldable pub marks_file : ℕ → (ℕ → Bool) → (ℕ → List ℕ) → ℕ → List ℕ
marks_file q lost marks n = in_turn n (λ k. cond (lost k) lost_marks (mark_bytes q (marks k)))
