-- `frame_writer::bit_between` meets its contract. Assumes nothing.
use mathlib.Core.Path.{◌≡◌, sym, ap, ◌∙◌}
use Prim.Native.Nat.{ℕ, ◌+◌, ◌*◌, ◌/◌}
use native.Mathlib.Omega.{arith}
use lib.ListN.{get_or}
use Rattle.frame.specs.Frame.{interleave}
use Rattle.frame.proofs.Interleave.{interleave-even, interleave-odd}
use borrow.Author.Rules.{rules}
use Rattle.frame_writer.proofs.bit_between.Goals as goal

pub returns-then-k-eq0 : goal.returns-then-k-eq0
returns-then-k-eq0 c =
    let a = c.args in
    let at : 2 * (a.k / 2) ≡ a.k = omega arith in
    sym (interleave-even a.lower.now a.higher.now (a.k / 2) (search rules)) ∙ ap (λ (n : ℕ). get_or (interleave a.lower.now a.higher.now) n 0) at

pub returns-else-k-eq0 : goal.returns-else-k-eq0
returns-else-k-eq0 c =
    let a = c.args in
    let at : 2 * (a.k / 2) + 1 ≡ a.k = omega arith in
    sym (interleave-odd a.lower.now a.higher.now (a.k / 2) (search rules)) ∙ ap (λ (n : ℕ). get_or (interleave a.lower.now a.higher.now) n 0) at
