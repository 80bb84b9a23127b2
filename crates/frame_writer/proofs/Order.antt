-- The order of refusals of writing a frame, and what a refusal leaves (document 01, "Numbers given").
--     Bits s blocks      all that is to be written is bits: the service bit, and each entry of the blocks
--     write-order        THE ORDER: 1 for a buffer of another length than 40 bytes, then 2 for a number that is no bit
--     refusal-leaves     "A refusal writes into no lent buffer"
-- Assumes nothing.
use mathlib.Core.Path.{◌≡◌, refl, ◌∙◌}
use mathlib.Core.Logic.{◌≢◌}
use mathlib.Core.List.{List}
use Prim.Native.Nat.{ℕ, ◌≤◌}
use borrow.Author.Tests.{leb-true, le-leb, ne_eqb}
use lib.Dec.{leb}
use lib.ListN.{length}
use Rattle.bits.specs.Table.{every, All}
use Rattle.bits.specs.Digits.{Below}
use Rattle.bits.specs.Bits.{are_bits}
use Rattle.bits.specs.Order.{Refused, Accepted}
use Rattle.bits.proofs.Tests.{both_true}
use Rattle.bits.proofs.Bits.{bits_below, below-bits}
use Rattle.bits.proofs.Every.{every-all, all-every}
use Rattle.bits.proofs.Order.{Tells, tells-length, tells-not, tested}
use Rattle.frame.specs.declared.Letter.{Letter}
use Rattle.frame_writer.specs.Write.{good_values, write_number, FrameWritten}

abbrev pub Bits : ℕ → List (List ℕ) → Type 0
Bits s blocks = (s ≤ 1) × All (Below 2) blocks

tells-bits : (s : ℕ) (blocks : List (List ℕ)) → Tells (Bits s blocks → ⊥) (good_values s blocks)
unfolding good_values
tells-bits s blocks =
    tells-not (good_values s blocks)
    (λ t. let good = both_true (leb s 1) (every are_bits blocks) t in (leb-true s 1 good.0, every-all are_bits (Below 2) bits_below blocks good.1))
    (λ b. rw (le-leb s 1 b.0) (all-every are_bits (Below 2) below-bits blocks b.1))

module _ (letter : Letter) (s : ℕ) (blocks : List (List ℕ)) (out : List ℕ) (r : ℕ) (out' : List ℕ) (w : FrameWritten letter s blocks out r out') where
  pub write-order : Refused (length out ≢ 40) 1 (Refused (Bits s blocks → ⊥) 2 Accepted) r
  unfolding write_number
  write-order = rw w.number (tested _ _ (tells-length (length out) 40) (tested _ _ (tells-bits s blocks) refl))

  pub refusal-leaves : r ≢ 0 → out' ≡ out
  refusal-leaves refused = w.buffer ∙ rw (← w.number, ne_eqb r 0 refused)
