-- How long the lines of a superframe are.
--     Held t                what the machine's types say of a superframe taken: small numbers are bytes, and there are six service bytes and three times eight
--                           counts
--     HeldIn r              the same of an answer
--     superframe-fits       the lines have at most 18,616 characters
--     superframe-whole      so a buffer of 20,480 bytes holds them from its first byte on: they are not refused, and stand there
-- Assumes nothing.
use mathlib.Core.Path.{◌≡◌, ap, ◌∙◌}
use mathlib.Core.List.{List, [], ◌∷◌, ◌++◌}
use Prim.Native.Nat.{ℕ, ◌*◌, ◌^◌, ◌≤◌, ◌<◌}
use native.Mathlib.Nat.{zero-add}
use native.Mathlib.Omega.{arith}
use borrow.Author.Tests.{eq-eqb}
use lib.IntN.{ℤ}
use lib.ListN.{length, drop, length-append}
use Rattle.std.specs.Prelude.{Result, Ok, Err}
use Rattle.bits.specs.Digits.{Below}
use Rattle.bits.specs.Letters.{letters}
use Rattle.bits.specs.Refused.{number_of}
use Rattle.bits.specs.declared.refusal.Refusal.{Refusal}
use Rattle.bits.specs.declared.refusal.Refusal.TheVariants.{Length, Range, Sync, Scale, Parity, Header, Full}
use Rattle.text.specs.Digits.{decimal}
use Rattle.text.specs.Page.{page}
use Rattle.text.proofs.Decimal.{decimal-short}
use Rattle.text.proofs.Entry.{entered-fits}
use Rattle.text_rows.specs.Turns.{next}
use Rattle.tally.specs.Totals.{sum_of}
use Rattle.beside_text.specs.Lines.{beside_text}
use Rattle.beside_text.proofs.Fits.{HeldBeside, beside-fits}
use Rattle.frames_text.proofs.Fits.{Sixteen, frames-fit}
use Rattle.tape.specs.declared.blocks.Blocks.{Blocks}
use Rattle.superframe.specs.declared.taking.Taken.{Taken}
use Rattle.superframe.specs.declared.taking.NotTaken.{NotTaken}
use Rattle.transcript_text.specs.Superframe.{head_line, sync_line, blocks_line, superframe_text, entered_superframe}

abbrev pub EightBytes : List ℕ → Type 0
EightBytes counts = (length counts ≡ 8) × Below 256 counts

pub record Held (t : Taken) : Type 0 where
  pub wrong : t.wrong < 65536
  pub beside : HeldBeside t
  pub clean : EightBytes t.blocks.clean
  pub mended : EightBytes t.blocks.mended
  pub bad : EightBytes t.blocks.bad

abbrev pub HeldIn : Result Taken NotTaken → Type 0
HeldIn (Ok t) = Held t
HeldIn (Err e) = Unit {0}

small_number : (r : Refusal) → number_of r < 256
small_number Length = omega arith
small_number Range = omega arith
small_number Sync = omega arith
small_number Scale = omega arith
small_number Parity = omega arith
small_number Header = omega arith
small_number Full = omega arith

length-head : (k number : ℕ) → k < 2 ^ 32 → number < 256 → length (head_line k number) ≤ 33
unfolding head_line letters
length-head k number h n =
    let d = decimal-short 9 k (omega (arith, h)) in
    let e = decimal-short 2 number (omega (arith, n)) in
    rw (length-append (decimal k) (letters " number" ++ (next number ++ (10 ∷ []))), length-append (decimal number) (10 ∷ [])) (omega (arith, d, e))

length-wrong : (w : ℕ) → w < 65536 → length (sync_line w) ≤ 11
unfolding sync_line letters
length-wrong w h = let d = decimal-short 4 w (omega (arith, h)) in rw (length-append (decimal w) (10 ∷ [])) (omega (arith, d))

sum-most : (l : List ℕ) → Below 256 l → sum_of l ≤ 255 * length l
unfolding sum_of Below
sum-most [] h = omega arith
sum-most (x ∷ l) h = let rest = sum-most l h.1 in let one = h.0 in omega (arith, rest, one)

sum-short : (counts : List ℕ) → EightBytes counts → length (decimal (sum_of counts)) ≤ 4
sum-short counts h = let s = sum-most counts h.1 in let e = h.0 in decimal-short 3 (sum_of counts) (omega (arith, s, e))

length-blocks : (b : Blocks) → EightBytes b.clean → EightBytes b.mended → EightBytes b.bad → length (blocks_line b) ≤ 22
unfolding blocks_line letters
length-blocks b clean mended bad =
    let c = sum-short b.clean clean in
    let m = sum-short b.mended mended in
    let w = sum-short b.bad bad in
    rw (
      length-append (decimal (sum_of b.clean)) (next (sum_of b.mended) ++ (next (sum_of b.bad) ++ (10 ∷ []))),
      length-append (decimal (sum_of b.mended)) (next (sum_of b.bad) ++ (10 ∷ [])),
      length-append (decimal (sum_of b.bad)) (10 ∷ []),
    ) (omega (arith, c, m, w))

pub superframe-fits :
    (k : ℕ) (r : Result Taken NotTaken) (samples : List ℤ) (marks : List ℕ) → k < 2 ^ 32 → HeldIn r → Sixteen samples →
    length (superframe_text k r samples marks) ≤ 18616
unfolding superframe_text
superframe-fits k (Ok t) samples marks h held small =
    let a = length-head k 0 h (omega arith) in
    let b = beside-fits t held.beside in
    let w = length-wrong t.wrong held.wrong in
    let c = length-blocks t.blocks held.clean held.mended held.bad in
    let d = frames-fit samples marks small in
    rw (length-append (head_line k 0) _, length-append (beside_text t) _, length-append (sync_line t.wrong) _, length-append (blocks_line t.blocks) _)
    (omega (arith, a, b, w, c, d))
superframe-fits k (Err e) samples marks h held small = let a = length-head k (number_of e.why) h (small_number e.why) in omega (arith, a)

pub superframe-whole :
    (out : List ℕ) (k : ℕ) (r : Result Taken NotTaken) (samples : List ℤ) (marks : List ℕ) → length out ≡ 20480 → k < 2 ^ 32 → HeldIn r → Sixteen samples →
    length samples ≡ 2048 → length marks ≡ 2048 →
    let s = superframe_text k r samples marks in
    entered_superframe (page out 0) k r samples marks ≡ record { number = 0; page = page (s ++ drop (length s) out) (length s) }
unfolding entered_superframe
superframe-whole out k r samples marks room h held small many marked =
    let s = superframe_text k r samples marks in
    let fits = superframe-fits k r samples marks h held small in
    rw (eq-eqb (length samples) 2048 many, eq-eqb (length marks) 2048 marked)
    (entered-fits out s 0 (omega (arith, fits, room)) ∙ ap (λ (n : ℕ). record { number = 0; page = page (s ++ drop n out) n }) (zero-add (length s)))
