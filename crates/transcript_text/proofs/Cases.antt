-- Lines of a transcript (docs/TRANSCRIPT.md), letter by letter: what the definitions give for the parts that an example shows.
-- Assumes nothing.
use mathlib.Core.Path.{◌≡◌, refl}
use mathlib.Core.List.{List, [], ◌∷◌, ◌++◌}
use Prim.Native.Nat.{ℕ}
use lib.IntN.{ℤ, pos, negsuc}
use Rattle.std.specs.Prelude.{None, Err}
use Rattle.bits.specs.Digits.{digits}
use Rattle.bits.specs.declared.refusal.Refusal.TheVariants.{Sync}
use Rattle.bits.specs.Letters.{letters}
use Rattle.text.specs.Digits.{decimal_in}
use Rattle.text_rows.specs.Rows.{spelled}
use Rattle.text_rows.specs.Turns.{in_turn}
use Rattle.tally.specs.Totals.{sum_of}
use Rattle.superframe.specs.Take.{refused_with}
use Rattle.superframe.specs.declared.state.State.{State}
use Rattle.beside_text.specs.Lines.{next_hex, service_line, labels_line, pair_text, places_text}
use Rattle.frames_text.specs.Frames.{marks_line, samples_line}
use Rattle.transcript_text.specs.Superframe.{head_line, sync_line, blocks_line, superframe_text}

head-case : head_line 2 0 ≡ letters "superframe 2 number 0\n"
unfolding head_line letters decimal_in
head-case = refl

service-case : service_line 1 0 (0 ∷ 0 ∷ 0 ∷ 0 ∷ 88 ∷ 0 ∷ []) ≡ letters "service 1 0 000000005800\n"
unfolding service_line letters decimal_in spelled
service-case = refl

labels-case : labels_line None ≡ letters "labels none\n"
unfolding labels_line letters
labels-case = refl

factors-case :
    pair_text 0 (2 ∷ 6 ∷ []) ++ (pair_text 0 (5 ∷ 5 ∷ []) ++ (pair_text 5 (8 ∷ 8 ∷ []) ++ pair_text 0 (4 ∷ 1 ∷ []))) ≡ letters " 26 55 -- 41"
unfolding pair_text letters spelled
factors-case = refl

far-case : places_text 0 0 ++ (places_text 0 12 ++ (places_text 5 0 ++ places_text 0 7)) ≡ letters " 0 12 - 7"
unfolding places_text letters decimal_in
far-case = refl

words-case : next_hex (digits 256 3 3993967) ++ next_hex (digits 256 3 364506) ≡ letters " 3cf16f 058fda"
unfolding letters spelled digits
words-case = refl

sync-case : sync_line 3 ≡ letters "sync 3\n"
unfolding sync_line letters decimal_in
sync-case = refl

blocks-case : blocks_line (record { clean = 476 ∷ []; mended = 25 ∷ []; bad = 11 ∷ [] }) ≡ letters "blocks 476 25 11\n"
unfolding blocks_line letters decimal_in sum_of
blocks-case = refl

marks-case : marks_line 1 (0 ∷ 0 ∷ 0 ∷ 0 ∷ 2 ∷ 2 ∷ 2 ∷ 2 ∷ []) ≡ letters "marks 1 00002222\n"
unfolding marks_line letters decimal_in spelled
marks-case = refl

samples-case : samples_line 1 (pos 0 ∷ negsuc 2 ∷ pos 17 ∷ []) ≡ letters "samples 1 0 -3 17\n"
unfolding samples_line letters decimal_in in_turn
samples-case = refl

-- a lost superframe is its first line alone
lost-case : (s : State) (samples : List ℤ) (marks : List ℕ) → superframe_text 2 (Err (refused_with Sync s)) samples marks ≡ letters "superframe 2 number 3\n"
unfolding superframe_text head_line letters decimal_in
lost-case s samples marks = refl
