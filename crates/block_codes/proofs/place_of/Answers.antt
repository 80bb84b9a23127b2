-- `block_codes::place_of` meets its contract. Assumes nothing.
use native.Mathlib.Omega.{arith}
use borrow.Author.Tests.{lt-ltb, le-ltb}
use Rattle.block.specs.Layout.{code_place}
use Rattle.block_codes.proofs.place_of.Goals as goal

pub returns-then-k-lt11 : goal.returns-then-k-lt11
unfolding code_place
returns-then-k-lt11 c = (rw (lt-ltb c.args.k 11 (omega arith)), omega arith)

pub returns-else-k-lt11 : goal.returns-else-k-lt11
unfolding code_place
returns-else-k-lt11 c = (rw (le-ltb c.args.k 11 (omega arith)), omega arith)
