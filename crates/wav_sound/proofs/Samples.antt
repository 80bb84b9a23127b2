-- A sample's two bytes as `to_le_bytes` gives them: `two-bytes`. Assumes nothing.
use mathlib.Core.Path.{◌≡◌, ap, ◌∙◌}
use Prim.Native.Nat.{◌<◌}
use native.Mathlib.Omega.{arith}
use lib.IntN.{ℤ, pos, negsuc}
use lib.Signed.{mag}
use Rattle.std.specs.Int.{to_le_bytes, cast_unsigned, w16}
use Rattle.sample.specs.Signed.{mod_z}
use Rattle.sample.specs.Pattern.{pattern_of}
use Rattle.wav.specs.Header.{little}
use Rattle.wav.proofs.Little.{two-little}
use Rattle.wav_sound.specs.Sound.{sample_bytes}

pattern-unsigned : (z : ℤ) → mag z < 32768 → cast_unsigned w16 z ≡ pattern_of 32768 z
unfolding pattern_of mod_z
pattern-unsigned (pos a) h = omega arith
pattern-unsigned (negsuc a) h = omega arith

pub two-bytes : (z : ℤ) → mag z < 32768 → to_le_bytes w16 (cast_unsigned w16 z) ≡ sample_bytes z
unfolding sample_bytes
two-bytes z h = two-little (cast_unsigned w16 z) ∙ ap (little 2) (pattern-unsigned z h)
