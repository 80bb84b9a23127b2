-- How long the lines of a superframe's sound are.
--     Sixteen samples       each sample is a number of 16 bits
--     frames-fit            the lines of the 64 frames have at most 17,728 characters
-- Assumes nothing.
use mathlib.Core.Path.{sym, subst, ◌∙◌}
use mathlib.Core.List.{List, [], ◌∷◌, ◌++◌}
use Prim.Native.Nat.{ℕ, suc, ◌+◌, ◌*◌, ◌^◌, ◌≤◌, ◌<◌}
use native.Mathlib.Omega.{arith}
use lib.IntN.{ℤ, pos, negsuc}
use lib.ListN.{length, get_or, drop, length-append}
use lib.Seq.{get_or-take, get_or-drop}
use lib.Signed.{mag}
use Rattle.bits.specs.Letters.{letters}
use Rattle.text.specs.Digits.{blank, decimal, signed}
use Rattle.text.proofs.Decimal.{decimal-short}
use Rattle.text_rows.specs.Rows.{row}
use Rattle.text_rows.specs.Turns.{in_turn, part}
use Rattle.text_rows.proofs.Spelled.{length-row}
use Rattle.text_rows.proofs.Turns.{length-turns, length_part}
use Rattle.frames_text.specs.Frames.{marks_line, samples_line, frame_text, frames_text}

abbrev pub Sixteen : List ℤ → Type 0
Sixteen samples = (i : ℕ) → mag (get_or samples i (pos 0)) < 2 ^ 15

signed-short : (z : ℤ) → mag z < 2 ^ 15 → length (signed z) ≤ 6
signed-short (pos n) h = let d = decimal-short 4 n (omega (arith, h)) in omega (arith, d)
signed-short (negsuc n) h = let d = decimal-short 4 (suc n) (omega (arith, h)) in omega (arith, d)

length-marks : (f : ℕ) (marks : List ℕ) → f < 100 → length marks ≤ 32 → length (marks_line f marks) ≤ 42
unfolding marks_line letters
length-marks f marks h l =
    let d = decimal-short 1 f h in
    let r = length-row marks in
    rw (length-append (decimal f) ((blank ∷ row marks) ++ (10 ∷ [])), length-append (row marks) (10 ∷ [])) (omega (arith, d, r, l))

length-samples :
    (f : ℕ) (samples : List ℤ) → f < 100 → length samples ≤ 32 →
    ((i : ℕ) → i < length samples → mag (get_or samples i (pos 0)) < 2 ^ 15) → length (samples_line f samples) ≤ 235
unfolding samples_line letters
length-samples f samples h l small =
    let told : ℕ → List ℕ = λ i. blank ∷ signed (get_or samples i (pos 0)) in
    let d = decimal-short 1 f h in
    let s = length-turns 7 (length samples) told (λ i b. let z = signed-short (get_or samples i (pos 0)) (small i b) in omega (arith, z)) in
    rw (length-append (decimal f) (in_turn (length samples) told ++ (10 ∷ [])), length-append (in_turn (length samples) told) (10 ∷ [])) (omega (arith, d, s, l))

small-part : (samples : List ℤ) (n i : ℕ) → Sixteen samples → i < 32 → mag (get_or (part 32 n samples) i (pos 0)) < 2 ^ 15
small-part samples n i h l =
    subst (λ (z : ℤ). mag z < 2 ^ 15)
    (sym (get_or-take 32 (drop (32 * n) samples) i (pos 0) l ∙ get_or-drop (32 * n) samples i (pos 0)))
    (h (32 * n + i))

length-frame : (samples : List ℤ) (marks : List ℕ) (n : ℕ) → Sixteen samples → n < 64 → length (frame_text samples marks n) ≤ 277
unfolding frame_text
length-frame samples marks n h l =
    let f : n + 1 < 100 = omega (arith, l) in
    let p = length_part 32 n samples in
    let m = length-marks (n + 1) (part 32 n marks) f (length_part 32 n marks) in
    let s = length-samples (n + 1) (part 32 n samples) f p (λ i b. small-part samples n i h (omega (arith, b, p))) in
    rw (length-append (marks_line (n + 1) (part 32 n marks)) (samples_line (n + 1) (part 32 n samples))) (omega (arith, m, s))

pub frames-fit : (samples : List ℤ) (marks : List ℕ) → Sixteen samples → length (frames_text samples marks) ≤ 17728
unfolding frames_text
frames-fit samples marks h = length-turns 277 64 (frame_text samples marks) (λ n l. length-frame samples marks n h l)
