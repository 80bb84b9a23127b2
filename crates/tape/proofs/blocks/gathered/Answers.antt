-- `tape::blocks::gathered` meets its contract. Assumes nothing.
use mathlib.Core.Path.{sym, ◌∙◌}
use Rattle.tape.specs.Tape.{gathered_from}
use Rattle.tape.proofs.blocks.gathered.Goals as goal

pub returns-then-not-all_below : goal.returns-then-not-all_below
unfolding gathered_from
returns-then-not-all_below c = rw (sym c.kinds_of-kinds.ensures, sym c.all_below.ensures ∙ c.if-not-all_below.true)

pub returns : goal.returns
unfolding gathered_from
returns c =
    rw (
      sym c.kinds_of-kinds.ensures,
      sym c.all_below.ensures ∙ c.if-not-all_below.false,
      c.tallies.ensures,
      c.tallies-2.ensures,
      c.tallies-3.ensures,
    )
