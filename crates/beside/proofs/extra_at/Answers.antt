-- `beside::extra_at` meets its contract. Assumes nothing.
use mathlib.Core.Path.{◌∙◌}
use Rattle.beside.proofs.Carried.{extra-there}
use Rattle.beside.proofs.extra_at.Goals as goal

pub returns : goal.returns
returns c =
    let a = c.args in
    c.bit_of.ensures ∙ extra-there a.sf.now a.q a.f
