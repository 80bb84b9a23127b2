-- `words::Reader::read` meets its contract: `read-parts`. Assumes nothing.
use Rattle.words.proofs.Words.{read-parts}
use Rattle.words.proofs.Reader.read.Goals as goal

pub returns : goal.returns
returns c =
    read-parts _ _ _ _ _ c.args.radius c.args.bits _ _ _ _ _
    c.word_of-word.ensures
    c.of_word-remainder.ensures
    c.places.ensures
    c.mended-right.ensures
    c.codes_in.ensures
