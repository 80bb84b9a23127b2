-- Where every sample and mark stands, and what it says, in document 01's numbers ("Superframe", "Main frame", "The block").
--     channel-stands    the entry of a channel in a frame, both from 0
--     stands            THE ENTRY of a side of programme q in frame f, from the block that carries it
-- Assumes nothing.
use mathlib.Core.Path.{◌≡◌, refl, sym, ap, subst, ◌∙◌}
use mathlib.Core.List.{List}
use Prim.Native.Nat.{ℕ, ◌+◌, ◌-◌, ◌*◌, ◌/◌, ◌%◌, ◌<◌, ◌≤◌}
use native.Mathlib.Omega.{arith}
use borrow.Author.Tests.{leb-true, leb-false, eqb-true, eqb-false}
use lib.Dec.{eqb, leb}
use lib.IntN.{pos}
use lib.ListN.{get_or}
use Rattle.bits.proofs.Table.{get_or-tab}
use Rattle.bits.proofs.Tests.{either_way}
use Rattle.sample.specs.Sample.{sample_of}
use Rattle.reading.specs.Search.{reading}
use Rattle.block.specs.Read.{Said, clean, mended, bad, said, protected, handed_on}
use Rattle.block_codes.specs.Codes.{code_at}
use Rattle.frame.specs.Read.{block_of}
use Rattle.tape.specs.Tape.{frame_at, block_in, block_mark}
use Rattle.block.specs.Mark.{Marked}
use Rattle.tape.specs.Document.{entry, channel_of, Carries, a_first, a_second, b-first, b-second}
use Rattle.tape.proofs.Tape.{reading-there}
use Rattle.tape.proofs.Carried.{carried, block-says}
use Rattle.sound.specs.Sound.{sound_at, mark_with, code_in, sample_at, mark_at, in_rows, samples_of, marks_of}
use Rattle.sound.specs.Document.{place_in, code_number, Stands}

-- a block's mark is never 3
said-small : (r : Said) (m : ℕ) → Marked r m → m ≡ 3 → ⊥
said-small clean m h e = omega (arith, h.clean-zero refl)
said-small (mended n) m h e =
    either_way (eqb n 3)
    (λ t. omega (arith, e, h.three-four (ap mended (eqb-true n 3 t))))
    (λ t. omega (arith, e, h.mended-one (record { places = n; is = refl; not_three = eqb-false n 3 t })))
said-small bad m h e = omega (arith, h.bad-two refl)

-- channel c of frame number f, both from 0, from the block in its position
module _ (radius : ℕ) (sf factors : List ℕ) (f c : ℕ) (l : f < 64) (u : c < 32) where
  abbrev place : ℕ
  place = 32 * f + c

  abbrev factor : ℕ
  factor = get_or factors c 0

  row : place / 32 ≡ f
  row = omega arith

  column : place % 32 ≡ c
  column = omega arith

  pub sample-is : get_or (samples_of radius sf factors) place (pos 0) ≡ sound_at (code_in radius sf f c) factor
  unfolding samples_of sample_at
  sample-is = get_or-tab 2048 (in_rows (sample_at radius sf factors)) place (pos 0) (omega arith) ∙ rw (row, column)

  pub mark-is : get_or (marks_of radius sf factors) place 0 ≡ mark_with (block_mark radius sf f (c / 4)) factor
  unfolding marks_of mark_at
  mark-is = get_or-tab 2048 (in_rows (mark_at radius sf factors)) place 0 (omega arith) ∙ rw (row, column)

  says : Marked (said (reading radius (protected (block_in sf f (c / 4))))) (block_mark radius sf f (c / 4))
  says = subst (λ (r : Said). Marked r (block_mark radius sf f (c / 4))) (reading-there radius sf f (c / 4) l (omega arith)) (block-says radius sf f (c / 4))

  pub channel-stands : Stands radius (block_in sf f (c / 4)) (c % 4 + 1) factor (get_or (samples_of radius sf factors) place (pos 0)) (get_or (marks_of radius sf factors) place 0)
  unfolding sound_at mark_with code_in
  channel-stands =
      let at : c % 4 + 1 - 1 ≡ c % 4 = omega arith in
      rw (sample-is, mark-is)
      (either_way (leb factor 7)
      (λ t.
      let there : factor ≤ 7 = leb-true factor 7 t in
      rw t
      (record {
        heard = λ h. ap (λ (j : ℕ). sample_of (code_at (handed_on radius (block_in sf f (c / 4))) j) factor) (sym at);
        marked = λ h. says;
        silent = λ h. absurd (omega arith);
        three = λ e. absurd (said-small _ _ says e);
      }))
      (λ t.
      let missing : 7 < factor = leb-false factor 7 t in
      rw t
      (record {
        heard = λ h. absurd (omega arith);
        marked = λ h. absurd (omega arith);
        silent = λ h. (refl, refl);
        three = λ e. missing;
      })))

-- the numbers of the document, and those of the definitions
module _ (radius : ℕ) (sf factors : List ℕ) (f b side : ℕ) (k : 1 ≤ f) (l : f ≤ 64) (m : 1 ≤ b) (u : b ≤ 4) (v : 1 ≤ side) (w : side ≤ 2) where
  abbrev there : ℕ → ℕ → ℕ → Type 0
  there q frame place =
      Stands radius (block_of (frame_at sf (frame - 1)) (b - 1)) (code_number place side) (entry factors (channel_of q side) 0)
      (entry (samples_of radius sf factors) (place_in f (channel_of q side)) (pos 0))
      (entry (marks_of radius sf factors) (place_in f (channel_of q side)) 0)

  from : (q frame place : ℕ) → Carries f b q frame place → 1 ≤ q → q ≤ 16 → (channel_of q side - 1) % 4 + 1 ≡ code_number place side → there q frame place
  from q frame place h a z e =
      let c = channel_of q side - 1 in
      let position : c / 4 ≡ (q - 1) / 2 = omega arith in
      let block : block_in sf (f - 1) (c / 4) ≡ block_of (frame_at sf (frame - 1)) (b - 1) =
      ap (block_in sf (f - 1)) position ∙ carried sf f b k m u q frame place h in
      let at : place_in f (channel_of q side) - 1 ≡ 32 * (f - 1) + c = omega arith in
      rw (at, ← block, ← e) (channel-stands radius sf factors (f - 1) c (omega arith) (omega arith))

  pub stands : (q frame place : ℕ) → Carries f b q frame place → there q frame place
  stands q frame place a_first = from (2 * b - 1) f 1 a_first (omega arith) (omega arith) (omega arith)
  stands q frame place a_second = from (2 * b) f 2 a_second (omega arith) (omega arith) (omega arith)
  stands q frame place b-first = from (2 * b + 7) (64 + f) 1 b-first (omega arith) (omega arith) (omega arith)
  stands q frame place b-second = from (2 * b + 8) (64 + f) 2 b-second (omega arith) (omega arith) (omega arith)
