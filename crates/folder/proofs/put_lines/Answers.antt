-- `folder::put_lines` meets its contract. Assumes nothing.
use mathlib.Core.Path.{ap}
use mathlib.Core.List.{◌∷◌}
use Prim.Native.Nat.{ℕ}
use Rattle.bits.specs.Letters.{letters}
use Rattle.text.specs.Digits.{blank, decimal}
use Rattle.text.proofs.Pens.{puts_as, puts_then}
use Rattle.folder.specs.Files.{about_text}
use Rattle.folder.proofs.put_lines.Goals as goal

pub returns : goal.returns
unfolding about_text letters
returns c =
    puts_then c.put_all.ensures
    (puts_then c.put_all-2.ensures
    (puts_then c.put_all-3.ensures
    (puts_then (puts_as (ap (λ (n : ℕ). blank ∷ decimal n) c.from.ensures) c.put_next.ensures)
    (puts_then c.put_all-4.ensures (puts_then c.put_all-5.ensures c.put.ensures)))))
