-- A main frame (document 01, "Main frame"): 320 bits, 40 bytes. Places count from 0 here, and from 1 in the document.
--     sync_word letter            bits 1 to 11
--     service_in letter s         bit 12: a service bit in A; in B it is written 0, and ignored on reading
--     interleave p q             two rows of bits, bit by bit, the first one's bit first
--     block blocks b             block b + 1 of four
--     frame_bits letter s blocks  THE FRAME's 320 bits
--     frame_bytes letter s blocks the 40 bytes that they make
--     place_of b j                where bit j + 1 of block b + 1 stands: for j = 1 to 77 the document's bits 11+2j, 12+2j, 165+2j and 166+2j
--     deinterleave bits b        block b + 1, gathered from its places among 320 bits
--     Belongs k b j              place k of a frame is that of bit j + 1 of block b + 1
--     block_at k, bit_at_place k    b and j for a place k from bit 13 on
use Rattle.std.specs.Prelude.{◌≡◌, List, [], ◌∷◌, ◌++◌, ℕ, ◌+◌, ◌-◌, ◌*◌, ◌/◌, ◌%◌, ◌<◌, get_or}
use Rattle.bits.specs.Table.{tabulate}
use Rattle.bits.specs.Bits.{bytes_of}
use Rattle.frame.specs.declared.Letter.{Letter}
use Rattle.frame.specs.declared.Letter.TheVariants.{A, B}

unfoldable pub sync_word : Letter → List ℕ
sync_word A = 1 ∷ 1 ∷ 1 ∷ 0 ∷ 0 ∷ 0 ∷ 1 ∷ 0 ∷ 0 ∷ 1 ∷ 0 ∷ []
sync_word B = 0 ∷ 0 ∷ 0 ∷ 1 ∷ 1 ∷ 1 ∷ 0 ∷ 1 ∷ 1 ∷ 0 ∷ 1 ∷ []

unfoldable pub service_in : Letter → ℕ → ℕ
service_in A s = s
service_in B s = 0

unfoldable pub interleave : List ℕ → List ℕ → List ℕ
interleave [] q = []
interleave (x ∷ p) [] = []
interleave (x ∷ p) (y ∷ q) = x ∷ y ∷ interleave p q

abbrev pub block : List (List ℕ) → ℕ → List ℕ
block blocks b = get_or blocks b []

-- blocks 1 and 2 are interleaved, then 3 and 4, the lower block first (house)
unfoldable pub frame_bits : Letter → ℕ → List (List ℕ) → List ℕ
frame_bits letter s blocks =
    sync_word letter
    ++ (service_in letter s ∷ (interleave (block blocks 0) (block blocks 1) ++ interleave (block blocks 2) (block blocks 3)))

unfoldable pub frame_bytes : Letter → ℕ → List (List ℕ) → List ℕ
frame_bytes letter s blocks = bytes_of (frame_bits letter s blocks)

abbrev pub place_of : ℕ → ℕ → ℕ
place_of b j = 12 + 154 * (b / 2) + b % 2 + 2 * j

unfoldable pub deinterleave : List ℕ → ℕ → List ℕ
deinterleave bits b = tabulate 77 (λ j. get_or bits (place_of b j) 0)

pub record Belongs (k b j : ℕ) : Type 0 where
  pub block-there : b < 4
  pub bit-there : j < 77
  pub place : place_of b j ≡ k

abbrev pub block_at : ℕ → ℕ
block_at k = 2 * ((k - 12) / 154) + k % 2

abbrev pub bit_at_place : ℕ → ℕ
bit_at_place k = (k - 12) % 154 / 2
