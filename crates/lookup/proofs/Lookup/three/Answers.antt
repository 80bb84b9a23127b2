-- `lookup::Lookup::three` meets its contract. The loop's invariant: what is to be found is found from the first place reached on. Assumes nothing.
use mathlib.Core.Path.{refl, sym, ◌∙◌}
use borrow.Author.Rules.{rules}
use Rattle.reading.specs.Wrong.{answer}
use Rattle.lookup.specs.Search.{three_by}
use Rattle.lookup.proofs.Search.{three-some, three-other, three-none, three-over}
use Rattle.lookup.proofs.Lookup.three.Goals as goal
use Rattle.lookup.proofs.Lookup.three.Goals.{in-Some+else-i-j, in_default}

pub loop-i-init : goal.loop-i-init
unfolding three_by
loop-i-init c = (search rules, refl)

pub returns-then-i-j : goal.returns-then-i-j
unfolding answer
returns-then-i-j c =
    sym (three-some _ _ _ _ _ _ (search rules) _ _ (sym c.pair.ensures ∙ c.in-Some.is) c.if-i-j.true) ∙ c.loop-i.invariant.1

pub loop-i-preserved : goal.loop-i-preserved
loop-i-preserved c = (
  search rules,
  sym
      (elim c.match-pair.branch [ in-Some+else-i-j w ↦ three-other _ _ _ _ _ _ (search rules) _ _ (sym c.pair.ensures ∙ w.in-Some.is) w.if-i-j.false | in_default w ↦ three-none _ _ _ _ _ _ (search rules) (sym c.pair.ensures ∙ w.in_default.is) ])
      ∙ c.loop-i.invariant.1,
)

pub returns : goal.returns
unfolding answer
returns c = sym (three-over _ _ _ _ c.args.remainder c.loop-i.i (search rules)) ∙ c.loop-i.invariant.1
