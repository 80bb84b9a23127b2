-- `beside::extra_of` meets its contract. Assumes nothing.
use mathlib.Core.Path.{sym, ap, ◌∙◌}
use Rattle.bits.proofs.Refused.{ok_same}
use Rattle.nearest.specs.Extra.{extra_answer}
use Rattle.beside.proofs.Scales.{extra-given}
use borrow.Author.Rules.{rules}
use Rattle.beside.proofs.extra_of.Goals as goal

pub unwrap-requires : goal.unwrap-requires
unwrap-requires c = rw (c.read_extra.ensures, c.extra_bits.ensures, extra-given c.args.sf.now c.args.q) (search rules)

pub returns : goal.returns
returns c = ok_same (sym c.unwrap.ensures ∙ c.read_extra.ensures ∙ ap extra_answer c.extra_bits.ensures ∙ extra-given c.args.sf.now c.args.q)
