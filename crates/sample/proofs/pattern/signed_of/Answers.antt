-- `sample::pattern::signed_of` meets its contract. Assumes nothing.
use mathlib.Core.Path.{◌≡◌, sym, ◌∙◌}
use Prim.Native.Nat.{ℕ, ◌-◌, ◌%◌}
use native.Mathlib.Omega.{arith}
use lib.IntN.{pos, negsuc, ◌-ℤ◌}
use mir.Syntax.{w16}
use mir.Val.{SFits, to_z}
use mir.ValLaws.{to_z_pos, to_z-of_z}
use borrow.Author.Tests.{ltb-true, ltb-false}
use Rattle.sample.proofs.Signed.{sub-neg}
use Rattle.sample.proofs.Patterns.{signed_low, signed_high}
use Rattle.sample.proofs.pattern.signed_of.Goals as goal

-- the lowest 14 bits as the code reads them, and 16384 less
read : (u : ℕ) → to_z w16 (u % 16384) ≡ pos (u % 16384)
read u = to_z_pos w16 (u % 16384) (omega arith)

less : (u : ℕ) → to_z w16 (u % 16384) -ℤ pos 16384 ≡ negsuc (16383 - u % 16384)
less u = rw (read u) (sub-neg (u % 16384) 16384 (omega arith))

sized : (u : ℕ) → SFits w16 (to_z w16 (u % 16384) -ℤ pos 16384)
sized u = rw (less u) (record { sfits = omega arith })

pub overflow_sub-result : goal.overflow_sub-result
overflow_sub-result c = sized c.args.pattern

pub returns-then-low-lt8192 : goal.returns-then-low-lt8192
returns-then-low-lt8192 c =
    let u = c.args.pattern in
    read u ∙ sym (signed_low 8192 (omega arith) u (ltb-true (u % 16384) 8192 (rw (read u) at c.if-low-lt8192.true)))

pub returns-else-low-lt8192 : goal.returns-else-low-lt8192
returns-else-low-lt8192 c =
    let u = c.args.pattern in
    to_z-of_z w16 _ (sized u) ∙ less u ∙ sym (signed_high 8192 (omega arith) u (ltb-false (u % 16384) 8192 (rw (read u) at c.if-low-lt8192.false)))
