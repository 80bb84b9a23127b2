-- What writing a main frame answers and leaves (document 01, "Main frame" and "Numbers given").
--     good_values s blocks          whether a service bit and all entries of blocks are 0 or 1
--     write_number size s blocks    number 1 for a buffer of another size than 40 bytes, then 2 for a service bit (in B too) or an entry
--                                  of a block that is neither 0 nor 1
--     FrameWritten letter s blocks out r out'
--                                  THE PROMISE: the number handed back, and what the buffer holds then: the frame, or what it held before
--     service_cleared letter bytes  A as it is; B with its service bit 0
use Rattle.std.specs.Prelude.{◌≡◌, Bool, cond, ◌&&◌, List, ℕ, eqb, leb, length, set}
use Rattle.bits.specs.Table.{every}
use Rattle.bits.specs.Bits.{bits_of, bytes_of, are_bits}
use Rattle.frame.specs.Frame.{frame_bytes}
use Rattle.frame.specs.declared.Letter.{Letter}
use Rattle.frame.specs.declared.Letter.TheVariants.{A, B}

unfoldable pub good_values : ℕ → List (List ℕ) → Bool
good_values s blocks = leb s 1 && every are_bits blocks

unfoldable pub write_number : ℕ → ℕ → List (List ℕ) → ℕ
write_number size s blocks = cond (eqb size 40) (cond (good_values s blocks) 0 2) 1

pub record FrameWritten (letter : Letter) (s : ℕ) (blocks : List (List ℕ)) (out : List ℕ) (r : ℕ) (out' : List ℕ) : Type 0 where
  pub number : r ≡ write_number (length out) s blocks
  pub buffer : out' ≡ cond (eqb (write_number (length out) s blocks) 0) (frame_bytes letter s blocks) out

-- B's service bit is 0 where a frame is written, whatever stood there when it was read
unfoldable pub service_cleared : Letter → List ℕ → List ℕ
service_cleared A bytes = bytes
service_cleared B bytes = bytes_of (set (bits_of bytes) 11 0)
