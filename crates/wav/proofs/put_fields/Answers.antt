-- `wav::put_fields` meets its contract. Assumes nothing.
use Prim.Native.Nat.{ℕ, ◌+◌, ◌*◌}
use mathlib.Core.Path.{ap, ap₂, ◌∙◌}
use Rattle.bits.specs.Letters.{letters}
use Rattle.text.proofs.Pens.{puts_as, puts_then}
use Rattle.wav.specs.Header.{little, capped, fields, header}
use Rattle.wav.proofs.Little.{four-little, capped-pairs}
use Rattle.wav.proofs.put_fields.Goals as goal

pub returns : goal.returns
unfolding header fields letters
returns c =
    let start = c.args in
    let n = c.from.ensures ∙ c.size.ensures in
    let sizes = capped-pairs start.pairs start.bytes c.requires.0 c.requires.1 in
    let riff = c.size-2.ensures ∙ ap₂ (λ (m k : ℕ). capped (36 + m * (2 * k))) n c.from-2.ensures ∙ sizes.0 in
    let all = c.size-3.ensures ∙ ap₂ (λ (m k : ℕ). capped (m * (2 * k))) n c.from-2.ensures ∙ sizes.1 in
    puts_then c.put_all.ensures
    (puts_then (puts_as (c.to_le_bytes.ensures ∙ four-little _ ∙ ap (little 4) riff) c.put_all-2.ensures)
    (puts_then c.put_all-3.ensures
    (puts_then c.put_format.ensures
    (puts_then c.put_all-4.ensures (puts_as (c.to_le_bytes-2.ensures ∙ four-little _ ∙ ap (little 4) all) c.put_all-5.ensures)))))
