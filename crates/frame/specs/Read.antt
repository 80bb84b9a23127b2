-- What reading a main frame answers (document 01, "Main frame" and "Numbers given").
--     wrong_sync letter bytes     in how many of the first eleven bits the bytes differ from the letter's sync word; bits past the end are 0
--     most_wrong                  how many wrong bits a sync may have (document 02, P1)
--     service_read letter bytes   bit 12 of A, and 0 for B
--     block_of bytes b            block b + 1; bits past the end of the bytes are 0, and so is all of a block that a frame does not have
--     gathered_of bytes b         what asking for it answers: the block, or number 1 for another length than 40 bytes, then 2 for a block that a frame does not have
--     blocks_in bytes             all four
--     found w s blocks           how many bits of the sync are wrong, a service bit and the first four of some blocks
--     blocks_read r               the four blocks of what was read
--     read_frame letter bytes     THE ANSWER: number 1 for another length than 40 bytes, then 3 for a sync with more wrong bits
use Rattle.std.specs.Prelude.{cond, List, [], ◌∷◌, ℕ, eqb, leb, ltb, length}
use Rattle.std.specs.declared.result.Result.{Result}
use Rattle.std.specs.declared.result.Result.TheVariants.{Ok, Err}
use Rattle.bits.specs.Table.{tabulate}
use Rattle.bits.specs.Bits.{bit_at, bits_of}
use Rattle.bits.specs.declared.refusal.Refusal.{Refusal}
use Rattle.bits.specs.declared.refusal.Refusal.TheVariants.{Length, Range, Sync}
use Rattle.remainder.specs.Polynomial.{zeros}
use Rattle.code.specs.Words.{distance}
use Rattle.frame.specs.Frame.{sync_word, service_in, block, deinterleave}
use Rattle.frame.specs.declared.FrameRead.{FrameRead}
use Rattle.frame.specs.declared.Letter.{Letter}

unfoldable pub wrong_sync : Letter → List ℕ → ℕ
wrong_sync letter bytes = distance (sync_word letter) (tabulate 11 (bit_at bytes))

abbrev pub most_wrong : ℕ
most_wrong = 2

unfoldable pub service_read : Letter → List ℕ → ℕ
service_read letter bytes = service_in letter (bit_at bytes 11)

unfoldable pub block_of : List ℕ → ℕ → List ℕ
block_of bytes b = cond (ltb b 4) (deinterleave (bits_of bytes) b) (zeros 77)

unfoldable pub gathered_of : List ℕ → ℕ → Result (List ℕ) Refusal
gathered_of bytes b = cond (eqb (length bytes) 40) (cond (ltb b 4) (Ok (block_of bytes b)) (Err Range)) (Err Length)

abbrev pub blocks_in : List ℕ → List (List ℕ)
blocks_in bytes = block_of bytes 0 ∷ block_of bytes 1 ∷ block_of bytes 2 ∷ block_of bytes 3 ∷ []

abbrev pub found : ℕ → ℕ → List (List ℕ) → Result FrameRead Refusal
found w s blocks = Ok (record { wrong = w; service = s; blocks = block blocks 0 ∷ block blocks 1 ∷ block blocks 2 ∷ block blocks 3 ∷ [] })

abbrev pub blocks_read : FrameRead → List (List ℕ)
blocks_read r = r.blocks

unfoldable pub read_frame : Letter → List ℕ → Result FrameRead Refusal
read_frame letter bytes =
    cond (eqb (length bytes) 40)
    (cond (leb (wrong_sync letter bytes) most_wrong)
    (found (wrong_sync letter bytes) (service_read letter bytes) (blocks_in bytes))
    (Err Sync))
    (Err Length)
