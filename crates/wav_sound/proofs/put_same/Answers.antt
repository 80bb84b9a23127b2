-- `wav_sound::put_same` meets its contract. Assumes nothing.
use mathlib.Core.List.{[], ◌∷◌}
use Prim.Native.Nat.{ℕ}
use borrow.Author.Rules.{rules}
use Rattle.wav_sound.proofs.put_same.Goals as goal

pub returns : goal.returns
returns c = c.put_turns.ensures (λ (i : ℕ). c.args.byte ∷ []) (λ i p q h post. search rules)
