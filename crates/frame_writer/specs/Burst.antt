-- A run of wrong bits (document 01, "The block", last paragraph).
--     Burst mask                 a mask of 320 bits whose ones lie in a run of at most four consecutive places among bits 13 to 320
--     Survives sent received     a block and what is received of it: at most two of the 77 bits differ, it is not read as bad by the ordinary reading, the 44
--                                protected sound bits come back as sent, and the 14 unprotected bits as received
use Rattle.std.specs.Prelude.{◌≡◌, ◌≢◌, List, [], ◌∷◌, ℕ, ◌+◌, ◌%◌, ◌≤◌, ◌<◌, length, get_or, take, drop}
use Rattle.bits.specs.Answer.{accepted}
use Rattle.code.specs.Words.{distance}
use Rattle.reading.specs.Reading.{ordinary}
use Rattle.block.specs.Read.{bad, said_of, handed_on}

pub record Burst (mask : List ℕ) : Type 0 where
  pub sized : length mask ≡ 320
  -- the first place of the run, and its length
  pub at : ℕ
  pub run : ℕ
  pub short : run ≤ 4
  pub inside : (12 ≤ at) × (at + run ≤ 320)
  pub before : (k : ℕ) → k < at → get_or mask k 0 % 2 ≡ 0
  pub behind : (k : ℕ) → at + run ≤ k → get_or mask k 0 % 2 ≡ 0

pub record Survives (sent received : List ℕ) : Type 0 where
  pub near : distance sent received ≤ 2
  pub not-bad : said_of ordinary received ≢ accepted (bad ∷ [])
  pub back : take 44 (handed_on ordinary received) ≡ take 44 sent
  pub others : drop 63 (handed_on ordinary received) ≡ drop 63 received
