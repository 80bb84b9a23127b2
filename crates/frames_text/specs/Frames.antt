-- The lines of a superframe's sound in a transcript (docs/TRANSCRIPT.md), each with its end.
--     marks_line f marks             the marks of frame f
--     samples_line f samples         its samples
--     frame_text samples marks n     the two lines of frame n + 1: places count from 0, frames from 1
--     frames_text samples marks      those of the 64 frames
--     frames_put p samples marks     these put on a page; where there are not 2,048 samples and 2,048 marks nothing is, and the place is the largest number
--                                   of 64 bits, past the end of every buffer
use Rattle.std.specs.Prelude.{ℕ, ◌+◌, ◌-◌, ◌^◌, cond, ◌&&◌, List, ◌∷◌, ◌++◌, eqb, ℤ, pos, length, get_or}
use Rattle.bits.specs.Letters.{letters}
use Rattle.text.specs.Page.{Page, page, put_text}
use Rattle.text.specs.Digits.{blank, signed}
use Rattle.text_rows.specs.Rows.{row}
use Rattle.text_rows.specs.Turns.{next, in_turn, part}

unfoldable pub marks_line : ℕ → List ℕ → List ℕ
marks_line f marks = letters "marks" ++ (next f ++ ((blank ∷ row marks) ++ letters "\n"))

unfoldable pub samples_line : ℕ → List ℤ → List ℕ
samples_line f samples =
    letters "samples" ++ (next f ++ (in_turn (length samples) (λ c. blank ∷ signed (get_or samples c (pos 0))) ++ letters "\n"))

unfoldable pub frame_text : List ℤ → List ℕ → ℕ → List ℕ
frame_text samples marks n = marks_line (n + 1) (part 32 n marks) ++ samples_line (n + 1) (part 32 n samples)

unfoldable pub frames_text : List ℤ → List ℕ → List ℕ
frames_text samples marks = in_turn 64 (frame_text samples marks)

unfoldable pub frames_put : Page → List ℤ → List ℕ → Page
frames_put p samples marks =
    cond (eqb (length samples) 2048 && eqb (length marks) 2048) (put_text p (frames_text samples marks)) (page p.bytes (2 ^ 64 - 1))
