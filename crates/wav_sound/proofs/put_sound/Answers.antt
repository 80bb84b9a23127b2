-- `wav_sound::put_sound` meets its contract. Assumes nothing.
use borrow.Author.Rules.{rules}
use lib.IntN.{pos}
use Rattle.wav_sound.specs.Sound.{sample_bytes, pair_bytes, sound_bytes}
use Rattle.wav_sound.proofs.put_sound.Goals as goal

pub returns : goal.returns
unfolding sound_bytes pair_bytes
returns c = c.put_programme.ensures sample_bytes (pos 0) (λ z p q post. search rules)
