-- `wav_sound::put_sample` meets its contract. Assumes nothing.
use mathlib.Core.Path.{ap, ◌∙◌}
use lib.IntN.{ℤ}
use mir.ValLaws.{to_z-of_z}
use Rattle.std.specs.Int.{to_le_bytes, cast_unsigned, w16}
use Rattle.text.proofs.Pens.{puts_as}
use Rattle.wav_sound.proofs.Samples.{two-bytes}
use Rattle.wav_sound.proofs.put_sample.Goals as goal

pub returns : goal.returns
returns c =
    let z = c.args.z in
    puts_as
    (c.to_le_bytes.ensures ∙ ap (λ (y : ℤ). to_le_bytes w16 (cast_unsigned w16 y)) (to_z-of_z w16 z c.ranges.z) ∙ two-bytes z c.ranges.z.sfits)
    c.put_all.ensures
