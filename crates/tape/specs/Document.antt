-- Sentences of document 01 on a superframe's blocks, with its own numbers, which count from 1: theorems hold the definitions to them.
--     entry l n d                   entry n of a list
--     channel_of q side              the channel of programme q, side 1 the left and 2 the right: "channels of programmes 1 to 16 in order, left first"
--     Carries f b q frame place     "Block b of A carries stereo programmes 2b-1 and 2b; block b of B carries 2b+7 and 2b+8": block b of main frame `frame` of
--                                   the 128 carries programme q in frame number f of the 64, as the first (place 1) or the second (place 2) of its two
--     one_of m n q                   q is one of the two
--     carries_on_tape t q             the same as a test: block t of the 512, in tape order and counted from 0, carries programme q
--     programme_blocks radius k q sf     how many of the 512 blocks carry programme q and are of kind k at a radius: 0 clean, 1 mended, 2 bad
--     wrong_bit sf f k               bit k of the sync of main frame f is not that of its letter's word; f and k count from 0
use Rattle.std.specs.Prelude.{ℕ, ◌+◌, ◌-◌, ◌*◌, ◌/◌, ◌%◌, Bool, true, false, cond, List, eqb, ltb, get_or}
use Rattle.bits.specs.Bits.{bit_at}
use Rattle.block.specs.Read.{bad}
use Rattle.block.specs.Mark.{kind_of}
use Rattle.frame.specs.Frame.{sync_word}
use Rattle.tape.specs.Tape.{frame_at, letter_of, readings, how_many}

abbrev pub entry : {A : Type 0} → List A → ℕ → A → A
entry l n d = get_or l (n - 1) d

abbrev pub channel_of : ℕ → ℕ → ℕ
channel_of q side = 2 * (q - 1) + side

unfoldable pub wrong_bit : List ℕ → ℕ → ℕ → Bool
wrong_bit sf f k = cond (eqb (bit_at (frame_at sf f) k) (get_or (sync_word (letter_of f)) k 0)) false true

pub data Carries (f b : ℕ) : ℕ → ℕ → ℕ → Type 0 where
  a_first : Carries f b (2 * b - 1) f 1
  a_second : Carries f b (2 * b) f 2
  b-first : Carries f b (2 * b + 7) (64 + f) 1
  b-second : Carries f b (2 * b + 8) (64 + f) 2

abbrev pub one_of : ℕ → ℕ → ℕ → Bool
one_of m n q = cond (eqb q m) true (eqb q n)

unfoldable pub carries_on_tape : ℕ → ℕ → Bool
carries_on_tape t q =
    cond (ltb (t / 4) 64)
    (one_of (2 * (t % 4 + 1) - 1) (2 * (t % 4 + 1)) q)
    (one_of (2 * (t % 4 + 1) + 7) (2 * (t % 4 + 1) + 8) q)

unfoldable pub programme_blocks : ℕ → ℕ → ℕ → List ℕ → ℕ
programme_blocks radius k q sf = how_many 512 (λ t. cond (carries_on_tape t q) (eqb (kind_of (get_or (readings radius sf) t bad)) k) false)
