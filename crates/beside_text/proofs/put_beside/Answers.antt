-- `put_beside` meets its contract. Assumes nothing.
use mathlib.Core.Path.{ap}
use Prim.Native.Nat.{ℕ}
use Rattle.text.proofs.Pens.{puts_as, puts_then}
use Rattle.beside_text.specs.Lines.{service_line, beside_text}
use Rattle.beside_text.proofs.put_beside.Goals as goal

pub returns : goal.returns
unfolding beside_text
returns c =
    let t = c.args.taken in
    puts_then (puts_as (ap (λ (n : ℕ). service_line t.position n t.six) c.number_of-number.ensures) c.put_service.ensures)
    (puts_then c.put_labels.ensures (puts_then c.put_factors.ensures (puts_then c.put_far.ensures c.put_words.ensures)))
