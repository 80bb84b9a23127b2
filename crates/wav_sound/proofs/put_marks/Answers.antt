-- `wav_sound::put_marks` meets its contract. Assumes nothing.
use mathlib.Core.List.{[], ◌∷◌}
use Prim.Native.Nat.{ℕ}
use borrow.Author.Rules.{rules}
use Rattle.wav_sound.specs.Sound.{mark_byte, pair_marks, mark_bytes}
use Rattle.wav_sound.proofs.put_marks.Goals as goal

pub returns : goal.returns
unfolding mark_bytes pair_marks
returns c = c.put_programme.ensures (λ (m : ℕ). mark_byte m ∷ []) 0 (λ m p q post. search rules)
