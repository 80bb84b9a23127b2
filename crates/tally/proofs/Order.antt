-- Blocks counted position by position, as the reader counts them, are the blocks counted in tape order.
--     tallied-sum       the eight counts of a kind add up to the count over the 512 blocks on tape
-- Assumes nothing.
use mathlib.Core.Path.{◌≡◌, ◌∙◌}
use mathlib.Core.Bool.{Bool}
use mathlib.Core.List.{List}
use Prim.Native.Nat.{ℕ}
use native.Mathlib.Omega.{arith}
use lib.Dec.{eqb}
use Rattle.bits.specs.Table.{tabulate}
use Rattle.reading.specs.Reading.{ordinary}
use Rattle.tape.specs.Tape.{sum_to, reading_in, how_many, tallied_by}
use Rattle.block.specs.Mark.{kind_of}
use Rattle.tape.proofs.Positions.{in_position, positions-sum}
use Rattle.tally.specs.Totals.{sum_of}
use Rattle.tally.specs.Reel.{kind_on_tape}

eight : (g : ℕ → ℕ) → sum_of (tabulate 8 g) ≡ sum_to 8 g
unfolding tabulate sum_of sum_to
eight g = omega arith

pub tallied-sum : (k : ℕ) (sf : List ℕ) → sum_of (tallied_by (λ f p. kind_of (reading_in ordinary sf f p)) k) ≡ how_many 512 (λ t. eqb (kind_on_tape sf t) k)
unfolding reading_in kind_on_tape
tallied-sum k sf = let so : ℕ → Bool = λ t. eqb (kind_on_tape sf t) k in eight (in_position so) ∙ positions-sum so
