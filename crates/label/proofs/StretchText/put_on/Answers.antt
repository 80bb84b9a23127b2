-- The line of a `label::Stretch` is put as its contract says. Assumes nothing.
use Rattle.bits.specs.Letters.{letters}
use Rattle.text.proofs.Pens.{puts_then}
use Rattle.label.specs.Lines.{line}
use Rattle.label.proofs.StretchText.put_on.Goals as goal

pub returns : goal.returns
unfolding line letters
returns c =
    puts_then c.put_seconds.ensures
    (puts_then c.put.ensures
    (puts_then c.put_seconds-2.ensures
    (puts_then c.put-2.ensures
    (puts_then c.put_words.ensures c.put-3.ensures))))
