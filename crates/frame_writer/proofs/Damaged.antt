-- A frame that was written, and some bits of it turned.
--     gathered-⊕                       gathering a block goes with the sum of rows of bits
--     damaged-bits, damaged-size       its bits, and that it has 40 bytes
--     damaged-gathered, damaged-block  each block is the one sent, with its part of the mask turned
--     untouched                        a bit that is not turned is the one sent
-- Assumes nothing.
use mathlib.Core.Path.{◌≡◌, sym, ap, ◌∙◌}
use mathlib.Core.List.{List}
use Prim.Native.Nat.{ℕ, ◌+◌, ◌/◌, ◌%◌, ◌<◌}
use native.Mathlib.Omega.{arith}
use lib.ListN.{length, get_or}
use Rattle.bits.specs.Digits.{Below}
use Rattle.bits.specs.Bits.{bits_of, bytes_of}
use Rattle.bits.proofs.Table.{tab-ext}
use Rattle.bits.proofs.Bits.{length-bytes_of, bits_back, bit_below}
use Rattle.remainder.specs.Polynomial.{◌⊕◌}
use Rattle.remainder.proofs.Sum.{length-⊕, below-⊕, get_or-⊕, ⊕-tab}
use Rattle.frame.specs.Frame.{block, frame_bits, place_of, deinterleave}
use Rattle.frame.specs.Read.{block_of}
use Rattle.frame.specs.declared.Letter.{Letter}
use Rattle.frame.proofs.Places.{Sized, length-frame, blocks-gathered}
use Rattle.frame.proofs.Reading.{block-there}
use Rattle.frame_writer.specs.Write.{FrameWritten}
use Rattle.frame_writer.specs.Damaged.{damaged}
use Rattle.frame_writer.proofs.Writing.{written_is}
use Rattle.frame_writer.proofs.Back.{below-frame, frame-bits}

pub gathered-⊕ : (p q : List ℕ) (b : ℕ) → length p ≡ length q → deinterleave (p ⊕ q) b ≡ deinterleave p b ⊕ deinterleave q b
unfolding deinterleave
gathered-⊕ p q b h =
    tab-ext 77 (λ j. get_or (p ⊕ q) (place_of b j) 0) (λ j. (get_or p (place_of b j) 0 + get_or q (place_of b j) 0) % 2) (λ j l. get_or-⊕ p q (place_of b j) h)
    ∙ sym (⊕-tab 77 (λ j. get_or p (place_of b j) 0) (λ j. get_or q (place_of b j) 0))

module _ (letter : Letter) (s : ℕ) (blocks : List (List ℕ)) (out frame : List ℕ) (sized : Sized blocks) (written : FrameWritten letter s blocks out 0 frame)
    (mask : List ℕ) (places : length mask ≡ 320) where
  bits_small : Below 2 (frame_bits letter s blocks)
  bits_small = let good = written_is letter s blocks out frame written in below-frame letter s blocks sized good.0 good.1

  pub same_size : length (frame_bits letter s blocks) ≡ length mask
  same_size = length-frame letter s blocks sized ∙ sym places

  sum-size : length (frame_bits letter s blocks ⊕ mask) ≡ 320
  sum-size = length-⊕ (frame_bits letter s blocks) mask same_size ∙ same_size ∙ places

  damage : damaged frame mask ≡ bytes_of (frame_bits letter s blocks ⊕ mask)
  unfolding damaged
  damage =
      let good = written_is letter s blocks out frame written in
      ap (λ (l : List ℕ). bytes_of (bits_of l ⊕ mask)) good.2
      ∙ ap (λ (l : List ℕ). bytes_of (l ⊕ mask)) (frame-bits letter s blocks sized good.0 good.1)

  pub damaged-bits : bits_of (damaged frame mask) ≡ frame_bits letter s blocks ⊕ mask
  damaged-bits = ap bits_of damage ∙ bits_back (frame_bits letter s blocks ⊕ mask) 40 (below-⊕ (frame_bits letter s blocks) mask) sum-size

  pub damaged-size : length (damaged frame mask) ≡ 40
  damaged-size = ap length damage ∙ length-bytes_of (frame_bits letter s blocks ⊕ mask) ∙ ap (λ (n : ℕ). n / 8) sum-size

  pub damaged-gathered : (b : ℕ) → b < 4 → deinterleave (frame_bits letter s blocks ⊕ mask) b ≡ block blocks b ⊕ deinterleave mask b
  damaged-gathered b h =
      gathered-⊕ (frame_bits letter s blocks) mask b same_size ∙ ap (λ (l : List ℕ). l ⊕ deinterleave mask b) (blocks-gathered letter s blocks sized b h)

  pub damaged-block : (b : ℕ) → b < 4 → block_of (damaged frame mask) b ≡ block blocks b ⊕ deinterleave mask b
  damaged-block b h = block-there _ b h ∙ ap (λ (l : List ℕ). deinterleave l b) damaged-bits ∙ damaged-gathered b h

  pub untouched : (k : ℕ) → get_or mask k 0 % 2 ≡ 0 → get_or (frame_bits letter s blocks ⊕ mask) k 0 ≡ get_or (frame_bits letter s blocks) k 0
  untouched k h = let bit = bit_below (frame_bits letter s blocks) k bits_small in get_or-⊕ (frame_bits letter s blocks) mask k same_size ∙ omega arith
