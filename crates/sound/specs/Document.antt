-- Sentences of document 01 on the samples and marks of a superframe, with its own numbers, which count from 1: theorems hold the definitions to them.
--     place_in f c           which of the 2,048 entries is channel c in frame f: frame by frame
--     code_number place side     which of a block's four codes: "left, right of the first programme, left, right of the second"
--     Stands radius block n s x m   sample x and mark m come of code n of a block, read at a radius, at factor s: "0 clean, 1 mended, 2 block bad, 3 no factor.
--                           Mark 3 wins and its sample is 0; no other mark changes a sample", and document 02, P9: "A block mended with 3 gives mark 4 (mark 3
--                           still wins)"
use Rattle.std.specs.Prelude.{ℕ, ◌+◌, ◌-◌, ◌*◌, ◌<◌, ◌≤◌, ◌≡◌, List, ℤ, pos}
use Rattle.sample.specs.Sample.{sample_of}
use Rattle.reading.specs.Search.{reading}
use Rattle.block.specs.Read.{said, protected, handed_on}
use Rattle.block_codes.specs.Codes.{code_at}
use Rattle.block.specs.Mark.{Marked}

abbrev pub place_in : ℕ → ℕ → ℕ
place_in f c = 32 * (f - 1) + c

abbrev pub code_number : ℕ → ℕ → ℕ
code_number place side = 2 * (place - 1) + side

pub record Stands (radius : ℕ) (block : List ℕ) (n s : ℕ) (x : ℤ) (m : ℕ) : Type 0 where
  pub heard : s ≤ 7 → x ≡ sample_of (code_at (handed_on radius block) (n - 1)) s
  pub marked : s ≤ 7 → Marked (said (reading radius (protected block))) m
  pub silent : 7 < s → (x ≡ pos 0) × (m ≡ 3)
  pub three : m ≡ 3 → 7 < s
