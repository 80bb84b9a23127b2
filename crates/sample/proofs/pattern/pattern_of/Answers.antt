-- `sample::pattern::pattern_of` meets its contract. Assumes nothing.
use mathlib.Core.Path.{ap, ◌∙◌}
use Prim.Native.Nat.{ℕ, ◌-◌, ◌%◌}
use native.Mathlib.Omega.{arith}
use mir.Syntax.{w16}
use mir.ValLaws.{to_z-of_z}
use Rattle.sample.proofs.Sample.{reached}
use Rattle.sample.proofs.Patterns.{pattern-negative, pattern-other}
use Rattle.sample.proofs.pattern.pattern_of.Goals as goal

pub returns-then-code-lt0 : goal.returns-then-code-lt0
returns-then-code-lt0 c =
    let code = c.args.code in
    ap (λ (n : ℕ). 16383 - n % 16384) (reached code c.reach-low.result c.ranges.code c.reach-low.ensures)
    ∙ pattern-negative 8192 (omega arith) code (rw (to_z-of_z w16 code c.ranges.code) at c.if-code-lt0.true)

pub returns-else-code-lt0 : goal.returns-else-code-lt0
returns-else-code-lt0 c =
    let code = c.args.code in
    ap (λ (n : ℕ). n % 16384) (reached code c.reach-low.result c.ranges.code c.reach-low.ensures)
    ∙ pattern-other 8192 (omega arith) code (rw (to_z-of_z w16 code c.ranges.code) at c.if-code-lt0.false)
