-- The lines of a superframe in a transcript (docs/TRANSCRIPT.md), each with its end.
--     head_line k number                 superframe k, and the number that taking it gave
--     sync_line w                        how many bits of its 128 syncs are wrong
--     blocks_line blocks                 how many of its blocks are clean, mended and bad
--     superframe_text k r samples marks  all lines of superframe k, by what taking it answered; the first alone where it was refused
--     entered_superframe p k r samples marks
--                                       what putting them answers and leaves; number 1 also where there are not 2,048 samples and 2,048 marks
use Rattle.std.specs.Prelude.{ℕ, cond, ◌&&◌, Result, Ok, Err, List, ◌++◌, eqb, ℤ, length}
use Rattle.bits.specs.Refused.{number_of}
use Rattle.bits.specs.Letters.{letters}
use Rattle.text.specs.Page.{Page}
use Rattle.text.specs.Entry.{Entered, refused_text, entered_text}
use Rattle.text_rows.specs.Turns.{next}
use Rattle.tally.specs.Totals.{sum_of}
use Rattle.beside_text.specs.Lines.{beside_text}
use Rattle.frames_text.specs.Frames.{frames_text}
use Rattle.tape.specs.declared.blocks.Blocks.{Blocks}
use Rattle.superframe.specs.declared.taking.Taken.{Taken}
use Rattle.superframe.specs.declared.taking.NotTaken.{NotTaken}

unfoldable pub head_line : ℕ → ℕ → List ℕ
head_line k number = letters "superframe" ++ (next k ++ (letters " number" ++ (next number ++ letters "\n")))

unfoldable pub sync_line : ℕ → List ℕ
sync_line w = letters "sync" ++ (next w ++ letters "\n")

unfoldable pub blocks_line : Blocks → List ℕ
blocks_line blocks =
    letters "blocks" ++ (next (sum_of blocks.clean) ++ (next (sum_of blocks.mended) ++ (next (sum_of blocks.bad) ++ letters "\n")))

unfoldable pub superframe_text : ℕ → Result Taken NotTaken → List ℤ → List ℕ → List ℕ
superframe_text k (Ok t) samples marks = head_line k 0 ++ (beside_text t ++ (sync_line t.wrong ++ (blocks_line t.blocks ++ frames_text samples marks)))
superframe_text k (Err e) samples marks = head_line k (number_of e.why)

unfoldable pub entered_superframe : Page → ℕ → Result Taken NotTaken → List ℤ → List ℕ → Entered
entered_superframe p k r samples marks =
    cond (eqb (length samples) 2048 && eqb (length marks) 2048) (entered_text p (superframe_text k r samples marks)) (refused_text p)
