-- The heights of marks 0 to 4, as docs/HAND-ON.md prints them: `heights-printed`. Assumes nothing.
use mathlib.Core.Path.{◌≡◌, refl}
use mathlib.Core.List.{[], ◌∷◌}
use Rattle.bits.specs.Table.{tabulate}
use Rattle.wav_sound.specs.Sound.{mark_byte}

pub heights-printed : tabulate 5 mark_byte ≡ 128 ∷ 144 ∷ 160 ∷ 176 ∷ 192 ∷ []
unfolding tabulate mark_byte
heights-printed = refl
