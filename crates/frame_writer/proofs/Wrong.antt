-- Syncs with wrong bits (document 02, P1): a main frame that was written, with any of its bits turned.
--     turned-wrong       as many bits of its sync are wrong as were turned there
--     turned-reads       THE FIRST: with up to two it is read, with their number, and its service bit and blocks as they came
--     turned-refused     THE SECOND: with three or more it is refused with 3 (`Sync`)
-- Assumes nothing.
use mathlib.Core.Path.{◌≡◌, sym, ap, ◌∙◌}
use mathlib.Core.List.{List}
use Prim.Native.Nat.{ℕ, ◌+◌, ◌%◌, ◌≤◌}
use native.Mathlib.Omega.{arith}
use borrow.Author.Tests.{eq-eqb, lt-leb}
use lib.ListN.{length, get_or}
use Rattle.std.specs.declared.result.Result.TheVariants.{Err}
use Rattle.bits.specs.declared.refusal.Refusal.TheVariants.{Sync}
use Rattle.bits.specs.Table.{tabulate}
use Rattle.bits.specs.Bits.{bit_at}
use Rattle.bits.proofs.Table.{tab-ext, tab-get_or, length-tab}
use Rattle.bits.proofs.Bits.{bits_of-at}
use Rattle.remainder.specs.Polynomial.{◌⊕◌}
use Rattle.remainder.proofs.Sum.{get_or-⊕, ⊕-tab}
use Rattle.code.specs.Words.{distance}
use Rattle.code.proofs.Distance.{distance-changed}
use Rattle.frame.specs.Frame.{sync_word, service_in, frame_bits}
use Rattle.frame.specs.Read.{wrong_sync, most_wrong, found, read_frame}
use Rattle.frame.specs.declared.Letter.{Letter}
use Rattle.frame.proofs.Sync.{length-sync}
use Rattle.frame.proofs.Places.{Sized, frame-sync, frame-service}
use Rattle.frame.proofs.Reading.{reads}
use Rattle.frame_writer.specs.Write.{FrameWritten}
use Rattle.frame_writer.specs.Damaged.{damaged, damaged_blocks, turned_sync}
use Rattle.frame_writer.proofs.Damaged.{same_size, damaged-bits, damaged-size, damaged-gathered}

module _ (letter : Letter) (s : ℕ) (blocks : List (List ℕ)) (out frame : List ℕ) (sized : Sized blocks) (written : FrameWritten letter s blocks out 0 frame)
    (mask : List ℕ) (places : length mask ≡ 320) where
  bit-there : (k : ℕ) → get_or (frame_bits letter s blocks ⊕ mask) k 0 ≡ (get_or (frame_bits letter s blocks) k 0 + get_or mask k 0) % 2
  bit-there k = get_or-⊕ (frame_bits letter s blocks) mask k (same_size letter s blocks out frame sized written mask places)

  sync-there : tabulate 11 (bit_at (damaged frame mask)) ≡ sync_word letter ⊕ tabulate 11 (λ k. get_or mask k 0)
  sync-there =
      tab-ext 11 (bit_at (damaged frame mask)) (λ k. (get_or (sync_word letter) k 0 + get_or mask k 0) % 2)
      (λ k h.
      sym (bits_of-at (damaged frame mask) k)
      ∙ ap (λ (l : List ℕ). get_or l k 0) (damaged-bits letter s blocks out frame sized written mask places)
      ∙ bit-there k
      ∙ ap (λ (x : ℕ). (x + get_or mask k 0) % 2) (frame-sync letter s blocks sized k h))
      ∙ sym (⊕-tab 11 (λ k. get_or (sync_word letter) k 0) (λ k. get_or mask k 0))
      ∙ ap (λ (l : List ℕ). l ⊕ tabulate 11 (λ k. get_or mask k 0)) (sym (tab-get_or 11 (sync_word letter) 0 (length-sync letter)))

  pub turned-wrong : wrong_sync letter (damaged frame mask) ≡ turned_sync mask
  unfolding wrong_sync turned_sync
  turned-wrong =
      ap (distance (sync_word letter)) sync-there
      ∙ distance-changed (sync_word letter) (tabulate 11 (λ k. get_or mask k 0)) (length-sync letter ∙ sym (length-tab 11 (λ k. get_or mask k 0)))

  pub turned-reads :
      turned_sync mask ≤ 2 →
      read_frame letter (damaged frame mask)
      ≡ found (turned_sync mask) (service_in letter ((service_in letter s + get_or mask 11 0) % 2)) (damaged_blocks blocks mask)
  turned-reads few =
      let gathered = damaged-gathered letter s blocks out frame sized written mask places in
      reads letter (damaged frame mask) (frame_bits letter s blocks ⊕ mask)
      (damaged-size letter s blocks out frame sized written mask places)
      (damaged-bits letter s blocks out frame sized written mask places)
      (turned_sync mask) turned-wrong few
      ∙ rw (
        bit-there 11,
        frame-service letter s blocks sized,
        gathered 0 (omega arith),
        gathered 1 (omega arith),
        gathered 2 (omega arith),
        gathered 3 (omega arith),
      )

  pub turned-refused : 3 ≤ turned_sync mask → read_frame letter (damaged frame mask) ≡ Err Sync
  unfolding read_frame
  turned-refused many =
      rw (
        eq-eqb (length (damaged frame mask)) 40 (damaged-size letter s blocks out frame sized written mask places),
        lt-leb (wrong_sync letter (damaged frame mask)) most_wrong (omega (arith, turned-wrong, many)),
      )
