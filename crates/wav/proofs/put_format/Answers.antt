-- `wav::put_format` meets its contract. Assumes nothing.
use mathlib.Core.Path.{ap, ◌∙◌}
use Prim.Native.Nat.{ℕ, ◌*◌}
use Rattle.bits.specs.Letters.{letters}
use Rattle.text.proofs.Pens.{puts_as, puts_then}
use Rattle.wav.specs.Header.{little, format}
use Rattle.wav.proofs.Little.{two-little, four-little}
use Rattle.wav.proofs.put_format.Goals as goal

pub returns : goal.returns
unfolding format letters
returns c =
    puts_then c.put_all.ensures
    (puts_then (puts_as (c.to_le_bytes.ensures ∙ four-little _) c.put_all-2.ensures)
    (puts_then (puts_as (c.to_le_bytes-2.ensures ∙ two-little _) c.put_all-3.ensures)
    (puts_then (puts_as (c.to_le_bytes-3.ensures ∙ two-little _) c.put_all-4.ensures)
    (puts_then (puts_as (c.to_le_bytes-4.ensures ∙ four-little _) c.put_all-5.ensures)
    (puts_then (puts_as (c.to_le_bytes-5.ensures ∙ four-little _ ∙ ap (λ (n : ℕ). little 4 (32000 * (2 * n))) c.from.ensures) c.put_all-6.ensures)
    (puts_then (puts_as (c.to_le_bytes-6.ensures ∙ two-little _) c.put_all-7.ensures)
    (puts_as (c.to_le_bytes-7.ensures ∙ two-little _) c.put_all-8.ensures)))))))
