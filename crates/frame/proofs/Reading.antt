-- Laws of reading a frame.
--     block-there                  a block that a frame has
--     below-sent, below-service    what is carried of a bit is a bit, and so is what is read
--     reads                        what 40 bytes read as, by their bits, where the sync has at most `most_wrong` wrong bits
--     reads-right                  and where it is right
--     read-zero, read_found        that it is not refused says that there are 40 bytes with at most `most_wrong` wrong sync bits, and what was found
--     found-there                  each block found is gathered from its places
--     sized-found, found-bits      so all four have 77 places, and every entry is 0 or 1
-- Assumes nothing.
use mathlib.Core.Path.{◌≡◌, refl, sym, ap, ◌∙◌}
use mathlib.Core.Bool.{Bool, true, false, cond}
use mathlib.Core.List.{List, [], ◌∷◌}
use Prim.Native.Nat.{ℕ, zero, suc, ◌<◌, ◌≤◌}
use native.Mathlib.Nat.{suc-ne-zero}
use native.Mathlib.Omega.{arith}
use borrow.Author.Tests.{eq-eqb, le-leb, lt-ltb, eqb-true, leb-true}
use lib.Dec.{eqb, leb}
use lib.ListN.{length, get_or}
use Rattle.std.specs.declared.result.Result.{Result}
use Rattle.std.specs.declared.result.Result.TheVariants.{Err}
use Rattle.bits.specs.Table.{tabulate, every}
use Rattle.bits.specs.Bits.{bit_at, bits_of, are_bits}
use Rattle.bits.specs.Refused.{number_in}
use Rattle.bits.specs.declared.refusal.Refusal.{Refusal}
use Rattle.bits.specs.declared.refusal.Refusal.TheVariants.{Length, Sync}
use Rattle.bits.proofs.Table.{tab-ext, tab-get_or}
use Rattle.bits.proofs.Bits.{below-bits, bits_of-at, bit_at-below, below-bits_of}
use Rattle.frame.specs.Frame.{sync_word, service_in, block, deinterleave}
use Rattle.frame.specs.Read.{wrong_sync, most_wrong, service_read, block_of, blocks_in, found, read_frame}
use Rattle.frame.specs.declared.FrameRead.{FrameRead}
use Rattle.frame.specs.declared.Letter.{Letter}
use Rattle.frame.specs.declared.Letter.TheVariants.{A, B}
use Rattle.frame.proofs.Sync.{length-sync, sync-right}
use Rattle.frame.proofs.Places.{length-gathered, below-gathered, Sized}

pub block-there : (bytes : List ℕ) (b : ℕ) → b < 4 → block_of bytes b ≡ deinterleave (bits_of bytes) b
unfolding block_of
block-there bytes b h = rw (lt-ltb b 4 h)

sent-read : (letter : Letter) (bytes : List ℕ) → service_read letter bytes ≡ service_in letter (get_or (bits_of bytes) 11 0)
unfolding service_read
sent-read letter bytes = ap (service_in letter) (sym (bits_of-at bytes 11))

pub below-sent : (letter : Letter) (s : ℕ) → s < 2 → service_in letter s < 2
unfolding service_in
below-sent A s h = h
below-sent B s h = omega arith

pub below-service : (letter : Letter) (bytes : List ℕ) → service_read letter bytes ≤ 1
unfolding service_read
below-service letter bytes = let small = below-sent letter (bit_at bytes 11) (bit_at-below bytes 11) in omega arith

module _ (letter : Letter) (bytes bits : List ℕ) (sized : length bytes ≡ 40) (are : bits_of bytes ≡ bits) where
  pub reads : (w : ℕ) → wrong_sync letter bytes ≡ w → w ≤ most_wrong
      → read_frame letter bytes ≡ found w (service_in letter (get_or bits 11 0)) (deinterleave bits 0 ∷ deinterleave bits 1 ∷ deinterleave bits 2 ∷ deinterleave bits 3 ∷ [])
  unfolding read_frame
  reads w wrong few =
      rw (
        eq-eqb (length bytes) 40 sized,
        wrong,
        le-leb w most_wrong few,
        sent-read letter bytes,
        block-there bytes 0 (omega arith),
        block-there bytes 1 (omega arith),
        block-there bytes 2 (omega arith),
        block-there bytes 3 (omega arith),
        are,
      )

  pub reads-right : ((k : ℕ) → k < 11 → get_or bits k 0 ≡ get_or (sync_word letter) k 0)
      → read_frame letter bytes ≡ found 0 (service_in letter (get_or bits 11 0)) (deinterleave bits 0 ∷ deinterleave bits 1 ∷ deinterleave bits 2 ∷ deinterleave bits 3 ∷ [])
  reads-right sync =
      let right : tabulate 11 (bit_at bytes) ≡ sync_word letter =
      tab-ext 11 (bit_at bytes) (λ k. get_or (sync_word letter) k 0) (λ k h. sym (bits_of-at bytes k) ∙ ap (λ (l : List ℕ). get_or l k 0) are ∙ sync k h)
      ∙ sym (tab-get_or 11 (sync_word letter) 0 (length-sync letter))
      in
      reads 0 (sync-right letter bytes right) (omega arith)

-- ---- a frame that was taken
read-ways : (a b : Bool) (x y z : Result FrameRead Refusal) → (number_in y ≡ 0 → ⊥) → (number_in z ≡ 0 → ⊥) → number_in (cond a (cond b x y) z) ≡ 0 → (a ≡ true) × (b ≡ true)
read-ways true true x y z hy hz e = (refl, refl)
read-ways true false x y z hy hz e = absurd (hy e)
read-ways false b x y z hy hz e = absurd (hz e)

module _ (letter : Letter) (bytes : List ℕ) (taken : number_in (read_frame letter bytes) ≡ 0) where
  tests : (eqb (length bytes) 40 ≡ true) × (leb (wrong_sync letter bytes) most_wrong ≡ true)
  unfolding read_frame
  tests =
      read-ways (eqb (length bytes) 40) (leb (wrong_sync letter bytes) most_wrong) (found (wrong_sync letter bytes) (service_read letter bytes) (blocks_in bytes)) (Err Sync) (Err Length)
      (suc-ne-zero 2) (suc-ne-zero 0) taken

  pub read-zero : (length bytes ≡ 40) × (wrong_sync letter bytes ≤ most_wrong)
  read-zero = (eqb-true (length bytes) 40 tests.0, leb-true (wrong_sync letter bytes) most_wrong tests.1)

  pub read_found : read_frame letter bytes ≡ found (wrong_sync letter bytes) (service_read letter bytes) (blocks_in bytes)
  unfolding read_frame
  read_found = rw (tests.0, tests.1)

-- ---- its four blocks
module _ (bytes : List ℕ) where
  pub found-there : (b : ℕ) → b < 4 → block (blocks_in bytes) b ≡ deinterleave (bits_of bytes) b
  found-there zero h = block-there bytes 0 h
  found-there (suc zero) h = block-there bytes 1 h
  found-there (suc (suc zero)) h = block-there bytes 2 h
  found-there (suc (suc (suc zero))) h = block-there bytes 3 h
  found-there (suc (suc (suc (suc b)))) h = absurd (omega arith)

  pub sized-found : Sized (blocks_in bytes)
  sized-found b h = ap length (found-there b h) ∙ length-gathered (bits_of bytes) b

  below-found : (b : ℕ) → b < 4 → are_bits (block (blocks_in bytes) b) ≡ true
  below-found b h =
      ap are_bits (found-there b h) ∙ below-bits (deinterleave (bits_of bytes) b) (below-gathered (bits_of bytes) b (below-bits_of bytes))

  pub found-bits : every are_bits (blocks_in bytes) ≡ true
  unfolding every
  found-bits =
      rw (below-found 0 (omega arith), below-found 1 (omega arith), below-found 2 (omega arith), below-found 3 (omega arith))
