-- `wav_sound::put_lost_bytes` meets its contract. Assumes nothing.
use borrow.Author.Tests.{eq-eqb, ne_eqb}
use Rattle.wav_sound.specs.Sound.{lost_bytes, lost_sound, lost_marks}
use Rattle.wav_sound.proofs.put_lost_bytes.Goals as goal

pub returns-then-bytes-eq1 : goal.returns-then-bytes-eq1
unfolding lost_bytes lost_marks
returns-then-bytes-eq1 c = rw (eq-eqb _ _ c.if-bytes-eq1.true) c.put_same.ensures

pub returns-else-bytes-eq1 : goal.returns-else-bytes-eq1
unfolding lost_bytes lost_sound
returns-else-bytes-eq1 c = rw (ne_eqb _ _ c.if-bytes-eq1.false) c.put_same-else-bytes-eq1.ensures
