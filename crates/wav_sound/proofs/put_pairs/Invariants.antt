-- `wav_sound::put_pairs` meets its contract: after f turns the first f pairs are put. Assumes nothing.
use Rattle.text.specs.Pens.{Puts}
use Rattle.text_rows.specs.Turns.{in_turn}
use Rattle.wav_sound.specs.Sound.{pair_of, PutsElement}
use Rattle.wav_sound.proofs.put_pairs.Given as goal

abbrev pub invariant-loop-f : goal.invariant-loop-f
invariant-loop-f g l =
    goal.F-IsAlwaysCallable g l.put
    × ((h : _) (d : _) → PutsElement (goal.F-post g l.put) h → Puts l.initial.pen l.pen (in_turn l.f (pair_of l.q l.list h d)))
