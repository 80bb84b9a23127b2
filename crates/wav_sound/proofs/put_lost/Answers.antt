-- `wav_sound::put_lost` meets its contract. Assumes nothing.
use borrow.Author.Rules.{rules}
use Rattle.wav_sound.specs.Sound.{lost_bytes, entered_lost}
use Rattle.wav_sound.proofs.put_lost.Goals as goal

pub returns : goal.returns
unfolding entered_lost
returns c =
    let whole = c.put_whole.ensures (lost_bytes c.args.bytes) (search rules) in
    record { same_buffer = whole.same_buffer; told = search rules }
