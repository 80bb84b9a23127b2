-- A main frame in which some bits are turned.
--     damaged bytes mask         bytes in which the bits are turned at which a mask has its ones
--     damaged_blocks blocks mask  four blocks, each with its part of a frame's mask turned
--     turned_sync mask            how many of the eleven bits of the sync a mask turns
use Rattle.std.specs.Prelude.{List, [], ◌∷◌, ℕ, get_or}
use Rattle.bits.specs.Table.{tabulate}
use Rattle.bits.specs.Bits.{bits_of, bytes_of, ones}
use Rattle.remainder.specs.Polynomial.{◌⊕◌}
use Rattle.frame.specs.Frame.{block, deinterleave}

unfoldable pub damaged : List ℕ → List ℕ → List ℕ
damaged bytes mask = bytes_of (bits_of bytes ⊕ mask)

abbrev pub damaged_blocks : List (List ℕ) → List ℕ → List (List ℕ)
damaged_blocks blocks mask =
    (block blocks 0 ⊕ deinterleave mask 0) ∷ (block blocks 1 ⊕ deinterleave mask 1) ∷ (block blocks 2 ⊕ deinterleave mask 2)
    ∷ (block blocks 3 ⊕ deinterleave mask 3) ∷ []

unfoldable pub turned_sync : List ℕ → ℕ
turned_sync mask = ones (tabulate 11 (λ k. get_or mask k 0))
