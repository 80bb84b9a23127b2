-- `lookup::last_of` meets its contract. The loop's invariant: the last of the places passed. Assumes nothing.
use mathlib.Core.Path.{◌≡◌, refl, sym, ap, ◌∙◌}
use borrow.Author.Rules.{rules}
use Rattle.lookup.specs.Search.{last_of, place_in}
use Rattle.lookup.proofs.Search.{last-here, last_on, placed, unplaced}
use Rattle.lookup.proofs.last_of.Goals as goal
use Rattle.lookup.proofs.last_of.Goals.{then-list-k, else-list-k}

pub loop-k-init : goal.loop-k-init
unfolding last_of
loop-k-init c = (search rules, refl)

pub loop-k-preserved : goal.loop-k-preserved
loop-k-preserved c =
    let list = c.args.list.now in
    let number = c.args.number in
    let k = c.loop-k.k in (
      search rules,
      elim c.if-list-k.branch [ then-list-k w ↦ w.at-is ∙ last-here list number k w.if-list-k.true | else-list-k w ↦ w.at-is ∙ c.loop-k.invariant.1 ∙ last_on list number k w.if-list-k.false ],
    )

pub returns-then-at-lt63 : goal.returns-then-at-lt63
returns-then-at-lt63 c =
    let all : c.loop-k.k ≡ 63 = search rules in
    sym (ap (place_in 63) (sym (c.loop-k.invariant.1 ∙ ap (last_of _ _) all)) ∙ placed 63 _ c.if-at-lt63.true)

pub returns-else-at-lt63 : goal.returns-else-at-lt63
returns-else-at-lt63 c =
    let all : c.loop-k.k ≡ 63 = search rules in
    sym (ap (place_in 63) (sym (c.loop-k.invariant.1 ∙ ap (last_of _ _) all)) ∙ unplaced 63 _ c.if-at-lt63.false)
