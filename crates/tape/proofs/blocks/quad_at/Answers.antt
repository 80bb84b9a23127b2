-- `tape::blocks::quad_at` meets its contract. Assumes nothing.
use mathlib.Core.Path.{ap, ◌∙◌}
use mathlib.Core.List.{List}
use Prim.Native.Nat.{ℕ}
use Rattle.words.specs.Words.{told_in}
use Rattle.tape.proofs.blocks.quad_at.Goals as goal

pub returns : goal.returns
returns c = c.read.ensures ∙ ap (λ (l : List ℕ). told_in c.args.reader.now c.args.radius l) c.block_at.ensures
