-- `label::seconds::put_padded` meets its contract. Assumes nothing.
use mathlib.Core.Path.{◌≡◌, refl}
use mathlib.Core.List.{[], ◌∷◌, ◌++◌}
use Prim.Native.Nat.{ℕ, zero, suc, ◌+◌, ◌-◌, ◌/◌, ◌%◌}
use native.Mathlib.Omega.{arith}
use Rattle.text.proofs.Pens.{puts_as, puts_none, puts_then}
use Rattle.label.specs.Seconds.{padded}
use Rattle.label.proofs.seconds.+put_padded.Goals as goal

none : (k x : ℕ) → k ≡ 0 → [] ≡ padded k x
unfolding padded
none k x e = rw e refl

more : (k x : ℕ) → (k ≡ 0 → ⊥) → padded (k - 1) (x / 10) ++ ((48 + x % 10) ∷ []) ≡ padded k x
unfolding padded
more zero x some = absurd (some refl)
more (suc k) x some = let e : suc k - 1 ≡ k = omega arith in rw e refl

pub returns-then-digits-eq0 : goal.returns-then-digits-eq0
returns-then-digits-eq0 t c = puts_as (none _ _ c.if-digits-eq0.true) (puts_none _)

pub returns : goal.returns
returns t c = puts_as (more _ _ c.if-digits-eq0.false) (puts_then c.put_padded.ensures c.put.ensures)
