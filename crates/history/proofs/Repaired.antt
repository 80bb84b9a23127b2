-- A superframe whose blocks were written, and then changed in at most as many of their 63 protected places as the radius and in none of bits 64 to 75.
--     code-back             the codes come back as they were sent
--     mark-sent             the mark of the block says how many places were changed: 0 none, 1 one or two, 4 three
--     sent-heard            THE SAMPLE is the rule's for the code sent, with that mark, where the factor is there
--     sent-silent           else the sample is 0, and the mark 3
-- Assumes nothing.
use mathlib.Core.Path.{◌≡◌, sym, ap, ◌∙◌}
use mathlib.Core.List.{List, ◌++◌}
use Prim.Native.Nat.{ℕ, ◌/◌, ◌%◌, ◌<◌, ◌≤◌}
use native.Mathlib.Omega.{arith}
use borrow.Author.Tests.{le-leb, lt-leb}
use lib.IntN.{ℤ, pos}
use lib.ListN.{length, get_or, take, drop, length-append, length-drop}
use lib.Seq.{ext_get_or, get_or-take, get_or-drop, drop_at}
use Rattle.bits.specs.Bits.{ones}
use Rattle.bits.proofs.Refused.{ok_same}
use Rattle.bits.proofs.Digits.{below-append}
use Rattle.bits.proofs.Bits.{bits_below}
use Rattle.code.specs.Generators.{block_generator}
use Rattle.code.specs.Words.{encode}
use Rattle.sample.specs.Sample.{sample_of}
use Rattle.reading.specs.Reading.{largest_radius}
use Rattle.block.specs.Layout.{sound, rest, block_with}
use Rattle.block.specs.Read.{said_with, handed_on}
use Rattle.block.specs.Demand.{Sent}
use Rattle.block.proofs.Places.{length-sound, length_rest, below-sound, below_rest, length-63, length-block, at-sound}
use Rattle.block.proofs.Demand.{heard, third_at}
use Rattle.block_codes.specs.Codes.{code_at, codes_at, codes_of}
use Rattle.block_codes.specs.declared.BlockCodes.{BlockCodes}
use Rattle.block_writer.proofs.Back.{written-clean, written-codes}
use Rattle.block.specs.Mark.{mark_of}
use Rattle.tape.specs.Tape.{block_in, block_mark}
use Rattle.sound.specs.Sound.{sound_at, mark_with, code_in, sample_at, mark_at}
use Rattle.history.specs.Calls.{SentIn}
use Rattle.tape.proofs.Tape.{reading-there}
use Rattle.sound.proofs.Samples.{code-there}
use Rattle.history.proofs.Same.{early, late, same_code}

module _ (radius : ℕ) (small : radius ≤ largest_radius) (sf : List ℕ) (f p : ℕ) (codes : List ℤ) (extra mask : List ℕ) (h : SentIn radius sf f p codes extra mask) where
  abbrev other : List ℕ
  other = rest codes ++ extra

  abbrev written : List ℕ
  written = block_with codes extra

  length-other : length other ≡ 14
  length-other = length-append (rest codes) extra ∙ omega (arith, length_rest codes, h.four, h.two)

  sent : Sent (sound codes) mask other
  sent =
      record {
        sound-size = omega (arith, length-sound codes, h.four);
        sound-bits = below-sound codes;
        mask_size = h.places;
        other-size = length-other;
        other-bits = below-append 2 (rest codes) extra (below_rest codes) (bits_below extra h.bits);
      }

  -- the block as it is handed on, and as it was written
  front-back : take 44 (handed_on radius (block_in sf f p)) ≡ sound codes
  front-back = rw h.arrived ((third_at radius small).back (sound codes) mask other sent h.few)

  rest_back : drop 63 (handed_on radius (block_in sf f p)) ≡ other
  rest_back = rw h.arrived ((third_at radius small).others (sound codes) mask other sent)

  written-rest : drop 63 written ≡ other
  unfolding block_with
  written-rest = drop_at (encode block_generator (sound codes)) other 63 (length-63 codes extra h.four)

  written-front : take 44 written ≡ sound codes
  written-front =
      let size = length-block codes extra h.four in
      let long : length (take 44 written) ≡ 44 = lib.Seq.length-take-le 44 written (omega (arith, h.two)) in
      let sounds : length (sound codes) ≡ 44 = omega (arith, length-sound codes, h.four) in
      ext_get_or 0 (take 44 written) (sound codes) (long ∙ sym sounds)
      (λ j l. let within : j < 44 = omega arith in get_or-take 44 written j 0 within ∙ sym (at-sound codes extra h.four j within))

  handed-size : length (handed_on radius (block_in sf f p)) ≡ 77
  handed-size = omega (arith, length-drop 63 (handed_on radius (block_in sf f p)), ap length rest_back, length-other)

  written-code : (j : ℕ) → j < 4 → code_at written j ≡ get_or codes j (pos 0)
  unfolding codes_of
  written-code j l =
      let bits = (heard radius written Rattle.block.specs.Read.clean (written-clean codes extra h.four h.two h.good h.bits radius small)).0 in
      let whole = rw bits at (written-codes codes extra h.four h.two h.good h.bits) in
      let same : codes_at written ≡ codes = ap (λ (b : BlockCodes). b.codes) (ok_same whole) in
      sym (code-there written j l) ∙ ap (λ (l : List ℤ). get_or l j (pos 0)) same

  pub code-back : (j : ℕ) → j < 4 → code_at (handed_on radius (block_in sf f p)) j ≡ get_or codes j (pos 0)
  code-back j l =
      same_code (handed_on radius (block_in sf f p)) written handed-size (length-block codes extra h.four ∙ omega (arith, h.two))
      (early (handed_on radius (block_in sf f p)) written 44 (front-back ∙ sym written-front))
      (λ i m u. late (handed_on radius (block_in sf f p)) written 63 (rest_back ∙ sym written-rest) i m) j l
      ∙ written-code j l

  pub mark-sent : f < 64 → p < 8 → block_mark radius sf f p ≡ mark_of (said_with (ones mask))
  unfolding block_mark
  mark-sent l m =
      let said-so = (third_at radius small).number (sound codes) mask other sent h.few in
      let same = (heard radius (block_in sf f p) (said_with (ones mask)) (rw h.arrived said-so)).1 in
      ap mark_of (reading-there radius sf f p l m ∙ same)

module _ (radius : ℕ) (small : radius ≤ largest_radius) (sf factors : List ℕ) (f c : ℕ) (codes : List ℤ) (extra mask : List ℕ) (l : f < 64) (m : c < 32)
    (h : SentIn radius sf f (c / 4) codes extra mask) where
  pub sent-heard : get_or factors c 0 ≤ 7
      → (sample_at radius sf factors f c ≡ sample_of (get_or codes (c % 4) (pos 0)) (get_or factors c 0)) × (mark_at radius sf factors f c ≡ mark_of (said_with (ones mask)))
  unfolding sample_at mark_at sound_at mark_with code_in
  sent-heard s = (
    rw (le-leb (get_or factors c 0) 7 s, code-back radius small sf f (c / 4) codes extra mask h (c % 4) (omega arith)),
    rw (le-leb (get_or factors c 0) 7 s) (mark-sent radius small sf f (c / 4) codes extra mask h l (omega arith)),
  )

  pub sent-silent : 7 < get_or factors c 0 → (sample_at radius sf factors f c ≡ pos 0) × (mark_at radius sf factors f c ≡ 3)
  unfolding sample_at mark_at sound_at mark_with
  sent-silent s = (rw (lt-leb (get_or factors c 0) 7 s), rw (lt-leb (get_or factors c 0) 7 s))
