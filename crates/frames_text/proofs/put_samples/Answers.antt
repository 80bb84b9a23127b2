-- `put_samples` meets its contract. Assumes nothing.
use mathlib.Core.List.{◌∷◌}
use Prim.Native.Nat.{ℕ}
use mathlib.Core.List.{List}
use borrow.Author.Rules.{rules}
use lib.IntN.{pos}
use lib.ListN.{get_or}
use Rattle.bits.specs.Letters.{letters}
use Rattle.text.specs.Digits.{blank, signed}
use Rattle.text.proofs.Pens.{puts_then}
use Rattle.frames_text.specs.Frames.{samples_line}
use Rattle.frames_text.proofs.put_samples.Goals as goal

pub returns : goal.returns
unfolding samples_line letters
returns c =
    let told : ℕ → List ℕ = λ i. blank ∷ signed (get_or c.args.samples.now i (pos 0)) in
    puts_then c.put_all.ensures (puts_then c.put_next.ensures (puts_then (c.put_turns.ensures told (λ i p q l k. search rules)) c.put.ensures))
