-- `label::put_words` meets its contract. Assumes nothing.
use mathlib.Core.Path.{◌≡◌, ap}
use mathlib.Core.Bool.{Bool, true, cond}
use borrow.Author.Tests.{lt-ltb, le-ltb}
use lib.Dec.{ltb}
use Rattle.bits.specs.Letters.{letters}
use Rattle.text.proofs.Pens.{puts_as, puts_then}
use Rattle.label.specs.Lines.{item, words}
use Rattle.label.proofs.put_words.Goals as goal
use Rattle.label.proofs.put_words.Goals.{then-s-gt0, else-s-gt0}

pub returns : goal.returns
unfolding words letters
returns c =
    let s = c.args.s in
    let third : c.if-s-gt0.put_item ≡ cond (ltb 0 s.bad) true (ltb 0 s.none) =
    elim c.if-s-gt0.branch [
      | then-s-gt0 w ↦ rw (w.put_item-is, lt-ltb _ _ w.if-s-gt0.true)
      | else-s-gt0 w ↦ rw (w.put_item-is, le-ltb _ _ w.if-s-gt0.false)
    ] in
    puts_then c.put_item.ensures
    (puts_then c.put_item-2.ensures (puts_as (ap (λ (b : Bool). item b (letters "lost") s.lost) third) c.put_item-3.ensures))
