-- `lookup::first_in` meets its contract. The loop's invariant: what is to be found is found from the place reached on. Assumes nothing.
use mathlib.Core.Path.{◌≡◌, sym, ap, ◌∙◌}
use mathlib.Core.Bool.{cond}
use mathlib.Core.List.{List}
use Prim.Native.Nat.{ℕ, ◌-◌, min}
use native.Mathlib.Omega.{arith}
use lib.Dec.{ltb}
use lib.ListN.{length}
use borrow.Author.Tests.{ltb-true, ltb-false}
use borrow.Author.Rules.{rules}
use Rattle.bits.proofs.Tests.{either_way}
use Rattle.lookup.specs.Search.{first_from, first_in, place_in}
use Rattle.lookup.proofs.Search.{here, on, over, placed, unplaced}
use Rattle.lookup.proofs.first_in.Goals as goal

-- the place to stop at is the smaller of two
smaller : (a b : ℕ) → min a b ≡ cond (ltb a b) a b
smaller a b =
    either_way (ltb a b)
    (λ t. rw t (let h = ltb-true a b t in omega arith))
    (λ t. rw t (let h = ltb-false a b t in omega arith))

whole : (list : List ℕ) (number from to end : ℕ) → end ≡ min to (length list) → first_from list number from (end - from) ≡ first_in list number from to
unfolding first_in
whole list number from to end e = ap (λ (n : ℕ). first_from list number from (n - from)) (e ∙ smaller to (length list))

pub returns-then-list-k : goal.returns-then-list-k
returns-then-list-k c =
    let list = c.args.list.now in
    let end : c.min-k-end.result ≡ min c.args.to (length list) = search rules in
    sym
    (ap (place_in (length list))
    (sym (whole list c.args.number c.args.from c.args.to _ end) ∙ sym c.loop-k.invariant ∙ here list c.args.number c.loop-k.k _ (search rules) c.if-list-k.true)
    ∙ placed _ _ (omega (arith, end)))

pub loop-k-preserved : goal.loop-k-preserved
loop-k-preserved c = sym (on c.args.list.now c.args.number c.loop-k.k _ (search rules) c.if-list-k.false) ∙ c.loop-k.invariant

pub returns : goal.returns
returns c =
    let list = c.args.list.now in
    let end : c.min-k-end.result ≡ min c.args.to (length list) = search rules in
    sym
    (ap (place_in (length list))
    (sym (whole list c.args.number c.args.from c.args.to _ end) ∙ sym c.loop-k.invariant ∙ over list c.args.number c.loop-k.k _ (search rules))
    ∙ unplaced _ _ (omega arith))
