-- Laws of writing a frame.
--     number_size, number-value, number-none      the way to each number
--     refusal, success                            what the promise asks where the number is not 0, and where it is
--     number-zero                                 number 0 says that there are 40 bytes, and that all values are bits
--     written_is                                  what was written, where the number is 0
-- Assumes nothing.
use mathlib.Core.Path.{◌≡◌, refl, sym, ◌∙◌}
use mathlib.Core.Bool.{Bool, true, false, cond}
use mathlib.Core.List.{List}
use Prim.Native.Nat.{ℕ, ◌<◌, ◌≤◌}
use native.Mathlib.Nat.{suc-ne-zero}
use native.Mathlib.Omega.{arith}
use borrow.Author.Tests.{eq-eqb, ne_eqb, eqb-true, leb-true}
use lib.Dec.{eqb, leb}
use lib.ListN.{length}
use Rattle.bits.specs.Table.{every}
use Rattle.bits.specs.Bits.{are_bits}
use Rattle.bits.proofs.Tests.{both_true}
use Rattle.frame.specs.Frame.{frame_bytes}
use Rattle.frame.specs.declared.Letter.{Letter}
use Rattle.frame_writer.specs.Write.{good_values, write_number, FrameWritten}

module _ (size s : ℕ) (blocks : List (List ℕ)) where
  pub number_size : (size ≡ 40 → ⊥) → 1 ≡ write_number size s blocks
  unfolding write_number
  number_size h = rw (ne_eqb size 40 h)

  pub number-value : size ≡ 40 → good_values s blocks ≡ false → 2 ≡ write_number size s blocks
  unfolding write_number
  number-value h e = rw (eq-eqb size 40 h, e)

  pub number-none : size ≡ 40 → good_values s blocks ≡ true → 0 ≡ write_number size s blocks
  unfolding write_number
  number-none h e = rw (eq-eqb size 40 h, e)

module _ (letter : Letter) (s : ℕ) (blocks : List (List ℕ)) (out : List ℕ) (r : ℕ) (e : r ≡ write_number (length out) s blocks) where
  pub refusal : (r ≡ 0 → ⊥) → FrameWritten letter s blocks out r out
  refusal h = record { number = e; buffer = rw (← e, ne_eqb r 0 h) }

  pub success : (out' : List ℕ) → r ≡ 0 → out' ≡ frame_bytes letter s blocks → FrameWritten letter s blocks out r out'
  success out' h w = record { number = e; buffer = rw (← e, eq-eqb r 0 h) w }

-- a number that is 0, 2 or 1 by two tests
zero-ways : (a b : Bool) → ◌≡◌ {A = ℕ} 0 (cond a (cond b 0 2) 1) → (a ≡ true) × (b ≡ true)
zero-ways true true e = (refl, refl)
zero-ways true false e = absurd (suc-ne-zero 1 (sym e))
zero-ways false b e = absurd (suc-ne-zero 0 (sym e))

pub number-zero : (size s : ℕ) (blocks : List (List ℕ)) → 0 ≡ write_number size s blocks → (size ≡ 40) × (s < 2) × (every are_bits blocks ≡ true)
unfolding write_number good_values
number-zero size s blocks e =
    let ways = zero-ways (eqb size 40) (good_values s blocks) e in
    let good = both_true (leb s 1) (every are_bits blocks) ways.1 in
    let small : s ≤ 1 = leb-true s 1 good.0 in
    (eqb-true size 40 ways.0, omega arith, good.1)

-- a frame that was written
pub written_is : (letter : Letter) (s : ℕ) (blocks : List (List ℕ)) (out frame : List ℕ) → FrameWritten letter s blocks out 0 frame
    → (s < 2) × (every are_bits blocks ≡ true) × (frame ≡ frame_bytes letter s blocks)
written_is letter s blocks out frame w =
    let good = number-zero (length out) s blocks w.number in
    (good.1, good.2, w.buffer ∙ rw (← w.number))
