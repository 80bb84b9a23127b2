-- `lookup::Lookup::two` meets its contract. Assumes nothing.
use mathlib.Core.Path.{sym, ◌∙◌}
use Rattle.reading.specs.Wrong.{answer}
use Rattle.lookup.proofs.Search.{two-none, two-some}
use Rattle.lookup.proofs.Lookup.two.Goals as goal

pub returns-in-Some : goal.returns-in-Some
unfolding answer
returns-in-Some c = sym (two-some _ _ _ _ _ _ (sym c.pair.ensures ∙ c.in-Some.is))

pub returns-in-None : goal.returns-in-None
unfolding answer
returns-in-None c = sym (two-none _ _ _ _ (sym c.pair.ensures ∙ c.in-None.is))
