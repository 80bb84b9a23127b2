-- What is written is read back, and what is read is written back.
--     sent-twice                  what is carried of a service bit that was carried
--     good-blocks, below-frame    entries that pass the test are bits, and so is the whole frame
--     frame-bits, frame-bytes     the bits of a frame's bytes; there are 40
--     written-reads               THE FIRST: a frame that was written reads as the service bit sent and the four blocks
--     bits-kept, right-writes     THE SECOND: where the sync is right, what a frame reads as is written as that frame, B with its service bit 0
-- Assumes nothing.
use mathlib.Core.Path.{◌≡◌, refl, sym, ap, ◌∙◌, subst}
use mathlib.Core.Bool.{true}
use mathlib.Core.List.{List, [], ◌∷◌}
use Prim.Native.Nat.{ℕ, zero, suc, ◌*◌, ◌/◌, ◌<◌}
use native.Mathlib.Decide.{dec_le, ℕ_discrete}
use native.Mathlib.Omega.{arith}
use borrow.Author.Tests.{le-leb}
use lib.ListN.{length, get_or, set, length-set}
use lib.Seq.{ext_get_or, set-get_or, get_or-set_same, get_or-set_other}
use Rattle.std.specs.declared.result.Result.TheVariants.{Ok}
use Rattle.bits.specs.Refused.{number_in}
use Rattle.bits.specs.Table.{every}
use Rattle.bits.specs.Digits.{Below}
use Rattle.bits.specs.Bits.{bit_at, bits_of, bytes_of, are_bits}
use Rattle.bits.proofs.Refused.{ok_same}
use Rattle.bits.proofs.Table.{get_or-tab}
use Rattle.bits.proofs.Tests.{both_true}
use Rattle.bits.proofs.Bits.{length-bits_of, length-bytes_of, bytes_back, bits_back, bits_below, bits_of-at}
use Rattle.frame.specs.Frame.{sync_word, service_in, interleave, block, frame_bits, frame_bytes, block_at, bit_at_place}
use Rattle.frame.specs.Read.{wrong_sync, service_read, blocks_in, found, blocks_read, read_frame}
use Rattle.frame.specs.declared.FrameRead.{FrameRead}
use Rattle.frame.specs.declared.Letter.{Letter}
use Rattle.frame.specs.declared.Letter.TheVariants.{A, B}
use Rattle.frame.proofs.Interleave.{below-interleave}
use Rattle.frame.proofs.Parts.{below_parts}
use Rattle.frame.proofs.Sync.{below-sync, sync-matches}
use Rattle.frame.proofs.Places.{place-belongs, gathered-at, Sized, length-frame, frame-sync, frame-service, placed, blocks-gathered}
use Rattle.frame.proofs.Reading.{below-sent, below-service, reads-right, read-zero, read_found, found-there, sized-found, found-bits}
use Rattle.frame_writer.specs.Write.{good_values, FrameWritten, service_cleared}
use Rattle.frame_writer.proofs.Writing.{number-none, success, written_is}

pub sent-twice : (letter : Letter) (s : ℕ) → service_in letter (service_in letter s) ≡ service_in letter s
unfolding service_in
sent-twice A s = refl
sent-twice B s = refl

-- ---- what is written is read back
pub good-blocks : (n : ℕ) (blocks : List (List ℕ)) → every are_bits blocks ≡ true → Below 2 (block blocks n)
unfolding every Below
good-blocks n [] e = tt
good-blocks zero (x ∷ blocks) e = bits_below x (both_true (are_bits x) (every are_bits blocks) e).0
good-blocks (suc n) (x ∷ blocks) e = good-blocks n blocks (both_true (are_bits x) (every are_bits blocks) e).1

module _ (letter : Letter) (s : ℕ) (blocks : List (List ℕ)) (sized : Sized blocks) (small : s < 2) (good : every are_bits blocks ≡ true) where
  pub below-frame : Below 2 (frame_bits letter s blocks)
  unfolding frame_bits
  below-frame =
      below_parts (sync_word letter) (service_in letter s) (interleave (block blocks 0) (block blocks 1)) (interleave (block blocks 2) (block blocks 3))
      (below-sync letter) (below-sent letter s small)
      (below-interleave (block blocks 0) (block blocks 1) (good-blocks 0 blocks good) (good-blocks 1 blocks good))
      (below-interleave (block blocks 2) (block blocks 3) (good-blocks 2 blocks good) (good-blocks 3 blocks good))

  pub frame-bits : bits_of (frame_bytes letter s blocks) ≡ frame_bits letter s blocks
  unfolding frame_bytes
  frame-bits = bits_back (frame_bits letter s blocks) 40 below-frame (length-frame letter s blocks sized)

  pub frame-bytes : length (frame_bytes letter s blocks) ≡ 40
  unfolding frame_bytes
  frame-bytes = length-bytes_of (frame_bits letter s blocks) ∙ ap (λ (n : ℕ). n / 8) (length-frame letter s blocks sized)

  frame-reads : read_frame letter (frame_bytes letter s blocks) ≡ found 0 (service_in letter s) blocks
  frame-reads =
      reads-right letter (frame_bytes letter s blocks) (frame_bits letter s blocks) frame-bytes frame-bits (frame-sync letter s blocks sized)
      ∙ rw (
        frame-service letter s blocks sized,
        sent-twice letter s,
        blocks-gathered letter s blocks sized 0 (omega arith),
        blocks-gathered letter s blocks sized 1 (omega arith),
        blocks-gathered letter s blocks sized 2 (omega arith),
        blocks-gathered letter s blocks sized 3 (omega arith),
      )

pub written-reads : (letter : Letter) (s : ℕ) (blocks : List (List ℕ)) (out frame : List ℕ) → Sized blocks
    → FrameWritten letter s blocks out 0 frame → read_frame letter frame ≡ found 0 (service_in letter s) blocks
written-reads letter s blocks out frame sized w =
    let good = written_is letter s blocks out frame w in
    ap (read_frame letter) good.2 ∙ frame-reads letter s blocks sized good.0 good.1

-- ---- what is read is written back
cleared : (letter : Letter) (bytes : List ℕ) → Below 256 bytes → bytes_of (set (bits_of bytes) 11 (service_in letter (service_read letter bytes))) ≡ service_cleared letter bytes
unfolding service_cleared service_in service_read
cleared A bytes h = ap (λ (x : ℕ). bytes_of (set (bits_of bytes) 11 x)) (sym (bits_of-at bytes 11)) ∙ ap bytes_of (set-get_or (bits_of bytes) 11 0) ∙ bytes_back bytes h
cleared B bytes h = refl

module _ (letter : Letter) (bytes : List ℕ) (taken : number_in (read_frame letter bytes) ≡ 0) where
  long : length (bits_of bytes) ≡ 320
  long = length-bits_of bytes ∙ ap (λ (n : ℕ). 8 * n) (read-zero letter bytes taken).0

  module _ (right : wrong_sync letter bytes ≡ 0) where
    -- place by place: the sync is right, and each place behind the service bit is that of a bit of a block
    bit_kept : (k : ℕ) → k < 320 → (k ≡ 11 → ⊥) → get_or (frame_bits letter (service_read letter bytes) (blocks_in bytes)) k 0 ≡ get_or (bits_of bytes) k 0
    bit_kept k h other = go (dec_le (suc k) 11)
      where
        go : Dec (k < 11) → get_or (frame_bits letter (service_read letter bytes) (blocks_in bytes)) k 0 ≡ get_or (bits_of bytes) k 0
        go (yes i) =
            frame-sync letter (service_read letter bytes) (blocks_in bytes) (sized-found bytes) k i
            ∙ ap (λ (l : List ℕ). get_or l k 0) (sym (sync-matches letter bytes right))
            ∙ get_or-tab 11 (bit_at bytes) k 0 i ∙ sym (bits_of-at bytes k)
        go (no o) =
            let home = place-belongs k (omega arith) h in
            let b : ℕ = block_at k in
            let j : ℕ = bit_at_place k in
            ap (λ (n : ℕ). get_or (frame_bits letter (service_read letter bytes) (blocks_in bytes)) n 0) (sym home.place)
            ∙ placed letter (service_read letter bytes) (blocks_in bytes) (sized-found bytes) b j home.block-there home.bit-there
            ∙ ap (λ (l : List ℕ). get_or l j 0) (found-there bytes b home.block-there)
            ∙ gathered-at (bits_of bytes) b j home.bit-there
            ∙ ap (λ (n : ℕ). get_or (bits_of bytes) n 0) home.place

    pub bits-kept : frame_bits letter (service_read letter bytes) (blocks_in bytes) ≡ set (bits_of bytes) 11 (service_in letter (service_read letter bytes))
    bits-kept =
        ext_get_or 0 (frame_bits letter (service_read letter bytes) (blocks_in bytes)) (set (bits_of bytes) 11 service)
        (length-frame letter (service_read letter bytes) (blocks_in bytes) (sized-found bytes) ∙ sym (length-set (bits_of bytes) 11 service ∙ long))
        (λ k h. go k (subst (λ (n : ℕ). k < n) (length-frame letter (service_read letter bytes) (blocks_in bytes) (sized-found bytes)) h) (ℕ_discrete k 11))
      where
        service : ℕ
        service = service_in letter (service_read letter bytes)

        go : (k : ℕ) → k < 320 → Dec (k ≡ 11) → get_or (frame_bits letter (service_read letter bytes) (blocks_in bytes)) k 0 ≡ get_or (set (bits_of bytes) 11 service) k 0
        go k h (yes e) =
            rw e (frame-service letter (service_read letter bytes) (blocks_in bytes) (sized-found bytes) ∙ sym (get_or-set_same (bits_of bytes) 11 service 0 (omega (arith, long))))
        go k h (no o) = bit_kept k h o ∙ sym (get_or-set_other (bits_of bytes) 11 k service 0 o)

    -- the bytes of those bits
    bytes-kept : Below 256 bytes → frame_bytes letter (service_read letter bytes) (blocks_in bytes) ≡ service_cleared letter bytes
    unfolding frame_bytes
    bytes-kept h = ap bytes_of bits-kept ∙ cleared letter bytes h

    pub right-writes : Below 256 bytes → (out : List ℕ) → length out ≡ 40 → (r : FrameRead) → read_frame letter bytes ≡ Ok r
        → FrameWritten letter r.service (blocks_read r) out 0 (service_cleared letter bytes)
    unfolding good_values
    right-writes h out sized r e =
        rw (sym (ok_same (sym (read_found letter bytes taken) ∙ e)))
        (success letter (service_read letter bytes) (blocks_in bytes) out 0
        (number-none (length out) (service_read letter bytes) (blocks_in bytes) sized (rw (le-leb (service_read letter bytes) 1 (below-service letter bytes), found-bits bytes)))
        (service_cleared letter bytes) refl (sym (bytes-kept h)))
