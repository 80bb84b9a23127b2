-- `wav::put_header` meets its contract. Assumes nothing.
use borrow.Author.Rules.{rules}
use Rattle.wav.specs.Header.{header, entered_header}
use Rattle.wav.proofs.put_header.Goals as goal

pub returns : goal.returns
unfolding entered_header
returns c =
    let whole = c.put_whole.ensures (header c.args.bytes c.args.pairs) (search rules) in
    record { same_buffer = whole.same_buffer; told = search rules }
