-- A run of at most four wrong consecutive bits in bits 13 to 320.
--     burst-two              of a run of four at most two fall into each block
--     survives               two turned places of a block do it no harm
--     damaged-reads          the frame is still read, with no wrong sync bit and the service bit sent
--     burst-survives         THE BURST: no block of it is bad, and the 44 protected sound bits of each come back as sent
-- Assumes nothing.
use mathlib.Core.Path.{◌≡◌, sym, ap, ◌∙◌}
use mathlib.Core.Logic.{◌≢◌}
use mathlib.Core.List.{List, ◌++◌}
use Prim.Native.Nat.{ℕ, zero, suc, ◌+◌, ◌-◌, ◌*◌, ◌/◌, ◌%◌, ◌<◌, ◌≤◌}
use native.Mathlib.Omega.{arith}
use lib.ListN.{length, get_or, take, drop, take-append-drop, length-drop}
use lib.Seq.{take-take, length-take-le}
use Rattle.bits.specs.Digits.{Below}
use Rattle.bits.specs.Bits.{ones}
use Rattle.bits.proofs.Digits.{below-take, below-drop}
use Rattle.bits.proofs.Answer.{accepted-same}
use Rattle.bits.proofs.Ones.{ones-take, ones-window}
use Rattle.remainder.specs.Polynomial.{◌⊕◌}
use Rattle.remainder.proofs.Sum.{length-⊕, below-⊕, take-⊕}
use Rattle.code.specs.Words.{CodeWord, encode}
use Rattle.code.proofs.Distance.{distance-changed}
use Rattle.reading.specs.Reading.{ordinary}
use Rattle.reading.specs.Demand.{sent}
use Rattle.block.specs.Read.{Said, bad, said_with, said_of, handed_on}
use Rattle.block.specs.Demand.{Sent, received}
use Rattle.block.proofs.Demand.{third}
use Rattle.frame.specs.Frame.{service_in, block, frame_bits, place_of, deinterleave}
use Rattle.frame.specs.Read.{block_of, found, read_frame}
use Rattle.frame.specs.declared.Letter.{Letter}
use Rattle.frame.proofs.Places.{length-gathered, Sized, frame-sync, frame-service}
use Rattle.frame.proofs.Reading.{reads-right}
use Rattle.frame_writer.specs.Write.{FrameWritten}
use Rattle.frame_writer.specs.Damaged.{damaged, damaged_blocks}
use Rattle.frame_writer.specs.Burst.{Burst, Survives}
use Rattle.frame_writer.proofs.Writing.{written_is}
use Rattle.frame_writer.proofs.Back.{sent-twice, good-blocks}
use Rattle.frame_writer.proofs.Damaged.{damaged-bits, damaged-size, damaged-gathered, damaged-block, untouched}

-- every second place of four belongs to one block
pub burst-two : (mask : List ℕ) → Burst mask → (b : ℕ) → ones (deinterleave mask b) ≤ 2
unfolding deinterleave
burst-two mask h b =
    let start : ℕ = 12 + 154 * (b / 2) + b % 2 in
    ones-window (λ j. get_or mask (place_of b j) 0) ((h.at + 1 - start) / 2) 2
    (λ j l. h.before (place_of b j) (omega arith))
    (λ j l. h.behind (place_of b j) (omega arith))
    77

-- ---- two places of a block
never-bad : (n : ℕ) → said_with n ≢ bad
unfolding said_with
never-bad zero e = let never : ◌≡◌ {A = ℕ} 0 1 = cc in omega arith
never-bad (suc n) e = let never : ◌≡◌ {A = ℕ} 0 1 = cc in omega arith

sent_word : (w : List ℕ) → CodeWord w → w ≡ sent (take 44 w)
unfolding encode
sent_word w h = sym (take-append-drop 44 w) ∙ ap (λ (l : List ℕ). take 44 w ++ l) h.checked

module _ (x m : List ℕ) (size : length x ≡ 77) (places : length m ≡ 77) (bits : Below 2 x) (two : ones m ≤ 2) (word : CodeWord (take 63 x)) where
  -- the 44 sound bits, the places turned among the 63, and the 14 others as they arrive
  sound : List ℕ
  sound = take 44 x

  turned : List ℕ
  turned = take 63 m

  other : List ℕ
  other = drop 63 (x ⊕ m)

  arrives : x ⊕ m ≡ received sound turned other
  unfolding sound turned other
  arrives =
      sym (take-append-drop 63 (x ⊕ m))
      ∙ ap (λ (l : List ℕ). l ++ drop 63 (x ⊕ m))
      (take-⊕ 63 x m ∙ ap (λ (l : List ℕ). l ⊕ take 63 m) (sent_word (take 63 x) word ∙ ap sent (take-take 44 63 x (omega arith))))

  is-sent : Sent sound turned other
  unfolding sound turned other
  is-sent =
      record {
        sound-size = length-take-le 44 x (omega arith);
        sound-bits = below-take 2 44 x bits;
        mask_size = length-take-le 63 m (omega arith);
        other-size = length-drop 63 (x ⊕ m) ∙ omega (arith, length-⊕ x m (size ∙ sym places));
        other-bits = below-drop 2 63 (x ⊕ m) (below-⊕ x m);
      }

  few : ones turned ≤ 2
  unfolding turned
  few = let less = ones-take 63 m in omega arith

  pub survives : Survives x (x ⊕ m)
  unfolding sound other
  survives =
      record {
        near = rw (distance-changed x m (size ∙ sym places)) two;
        not-bad = λ e.
            never-bad (ones turned)
            (ap (λ (l : List Said). get_or l 0 bad) (accepted-same (sym (third.number sound turned other is-sent few) ∙ ap (said_of ordinary) (sym arrives) ∙ e)));
        back = ap (λ (l : List ℕ). take 44 (handed_on ordinary l)) arrives ∙ third.back sound turned other is-sent few;
        others = ap (λ (l : List ℕ). drop 63 (handed_on ordinary l)) arrives ∙ third.others sound turned other is-sent;
      }

-- ---- a written frame, damaged
module _ (letter : Letter) (s : ℕ) (blocks : List (List ℕ)) (out frame : List ℕ) (sized : Sized blocks) (written : FrameWritten letter s blocks out 0 frame)
    (mask : List ℕ) (burst : Burst mask) where
  pub damaged-reads : read_frame letter (damaged frame mask) ≡ found 0 (service_in letter s) (damaged_blocks blocks mask)
  damaged-reads =
      let same = untouched letter s blocks out frame sized written mask burst.sized in
      let gathered = damaged-gathered letter s blocks out frame sized written mask burst.sized in
      reads-right letter (damaged frame mask) (frame_bits letter s blocks ⊕ mask)
      (damaged-size letter s blocks out frame sized written mask burst.sized)
      (damaged-bits letter s blocks out frame sized written mask burst.sized)
      (λ k h. same k (burst.before k (omega arith)) ∙ frame-sync letter s blocks sized k h)
      ∙ rw (
        same 11 (burst.before 11 (omega arith)),
        frame-service letter s blocks sized,
        sent-twice letter s,
        gathered 0 (omega arith),
        gathered 1 (omega arith),
        gathered 2 (omega arith),
        gathered 3 (omega arith),
      )

  pub burst-survives : (b : ℕ) → b < 4 → CodeWord (take 63 (block blocks b)) → Survives (block blocks b) (block_of (damaged frame mask) b)
  burst-survives b h word =
      let good = written_is letter s blocks out frame written in
      rw (damaged-block letter s blocks out frame sized written mask burst.sized b h)
      (survives (block blocks b) (deinterleave mask b) (sized b h) (length-gathered mask b) (good-blocks b blocks good.1) (burst-two mask burst b) word)
