-- `nearest::best_of` meets its contract. The loop's invariant: the best of the pairs passed. Assumes nothing.
use mathlib.Core.Path.{◌≡◌, sym, ap, ◌∙◌, subst}
use mathlib.Core.List.{List}
use Prim.Native.Nat.{ℕ, suc}
use native.Mathlib.Numerals.{add-one}
use native.Mathlib.Omega.{arith}
use Rattle.bits.specs.Digits.{digits}
use Rattle.nearest.specs.Reading.{away}
use Rattle.nearest.specs.Search.{better_of, Holds}
use Rattle.nearest.specs.declared.Best.{Best}
use Rattle.nearest.proofs.Search.{start, step}
use borrow.Author.Rules.{rules}
use Rattle.nearest.proofs.best_of.Goals as goal

pub loop-k-init : goal.loop-k-init
loop-k-init c = (search rules, start (digits 2 42 c.args.number) c.far.result c.far.ensures)

pub loop-k-preserved : goal.loop-k-preserved
loop-k-preserved c =
    let l = c.loop-k in
    let bits : List ℕ = digits 2 42 c.args.number in
    let is : c.better-best.result ≡ better_of l.best l.k (away bits l.k) = c.better-best.ensures ∙ ap (better_of l.best l.k) c.far-in-loop-k.ensures in (
      search rules,
      subst (λ (n : ℕ). Holds bits n c.better-best.result) (sym (add-one l.k))
          (subst (λ (s : Best). Holds bits (suc l.k) s) (sym is) (step bits l.k l.best l.invariant.1)),
    )

pub returns : goal.returns
returns c =
    let end : c.loop-k.k ≡ 64 = omega (arith, c.loop-k.invariant.0) in rw end at c.loop-k.invariant.1
