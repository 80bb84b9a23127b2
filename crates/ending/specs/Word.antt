-- How a program says that it ended.
--     ending_of promised read     how a reel ends, by the superframes that its header promises and those that were read
--     error_line word e           a word, a blank and C's number of an error, on a line
--     file_line e name            of a file that failed: its word, a blank, C's number of the error, a blank and its name, on a line
--     word_of ended               what is said of each way to end, on a line
--     descriptor_of bytes         the descriptor that an argument names: one digit from 3 to 9, as 0, 1 and 2 are taken; none for anything else
-- No two ways to end are said in one word (`words-apart`), and a word has at most 17 letters (`error-fits`, both in proofs/Word.antt).
use Rattle.std.specs.Prelude.{ℕ, ◌-◌, cond, List, [], ◌∷◌, ◌++◌, eqb, ltb, length, get_or, Option, Some, None, Result, Ok, Err}
use Rattle.bits.specs.Letters.{letters}
use Rattle.text.specs.Digits.{blank, decimal}
use Rattle.ending.specs.declared.Fault.{Fault}
use Rattle.ending.specs.declared.Fault.TheVariants.{Short, HeaderShort, CountTooLarge, OffsetTooSmall, HasSummary, NoRadius, NotRead, NotWritten}

unfoldable pub ending_of : ℕ → ℕ → Result Unit Fault
ending_of promised read = cond (eqb promised read) (Ok tt) (Err Short)

unfoldable pub error_line : List ℕ → ℕ → List ℕ
error_line word e = word ++ ((blank ∷ decimal e) ++ (10 ∷ []))

unfoldable pub file_line : ℕ → List ℕ → List ℕ
file_line e name = letters "file" ++ ((blank ∷ decimal e) ++ ((blank ∷ []) ++ (name ++ (10 ∷ []))))

abbrev pub word_of : Result Unit Fault → List ℕ
word_of (Ok tt) = letters "ok\n"
word_of (Err Short) = letters "short\n"
word_of (Err HeaderShort) = letters "header\n"
word_of (Err CountTooLarge) = letters "count\n"
word_of (Err OffsetTooSmall) = letters "offset\n"
word_of (Err HasSummary) = letters "summary\n"
word_of (Err NoRadius) = letters "radius\n"
word_of (Err (NotRead e)) = error_line (letters "read") e.number
word_of (Err (NotWritten e)) = error_line (letters "write") e.number

unfoldable pub descriptor_of : List ℕ → Option ℕ
descriptor_of bytes = let digit = get_or bytes 0 0 in cond (eqb (length bytes) 1) (cond (ltb digit 51) None (cond (ltb 57 digit) None (Some (digit - 48)))) None
