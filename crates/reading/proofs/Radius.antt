-- The radii that a caller may choose.
--     tells-radius              the test passes but for a radius other than two or three
--     chosen-wide, chosen-small     one that passes is at least the ordinary one, and at most the largest
-- Assumes nothing.
use mathlib.Core.Path.{◌≡◌, sym, ◌∙◌}
use mathlib.Core.Bool.{true, false, true≢false}
use mathlib.Core.Logic.{◌⊎◌, inl, inr, ⊎_elim}
use Prim.Native.Nat.{ℕ, ◌≤◌}
use native.Mathlib.Omega.{arith}
use lib.Dec.{eqb}
use borrow.Author.Tests.{eqb-true, eqb-false}
use Rattle.bits.proofs.Order.{Tells}
use Rattle.bits.proofs.Tests.{either_way}
use Rattle.reading.specs.Reading.{is_radius, OtherRadius, largest_radius}

passes : (r : ℕ) → is_radius r ≡ true → (r ≡ 2) ⊎ (r ≡ 3)
unfolding is_radius
passes r e =
    either_way (eqb r 2)
    (λ t. inl (eqb-true r 2 t))
    (λ t. inr (eqb-true r 3 (sym (rw t) ∙ e)))

fails : (r : ℕ) → is_radius r ≡ false → OtherRadius r
unfolding is_radius
fails r e =
    either_way (eqb r 2)
    (λ t. absurd (true≢false (sym (rw t) ∙ e)))
    (λ t. record { not-two = eqb-false r 2 t; not_three = eqb-false r 3 (sym (rw t) ∙ e) })

pub tells-radius : (r : ℕ) → Tells (OtherRadius r) (is_radius r)
tells-radius r = record { there = fails r; away = λ e o. ⊎_elim o.not-two o.not_three (passes r e) }

pub chosen-wide : (r : ℕ) → is_radius r ≡ true → 2 ≤ r
chosen-wide r e = ⊎_elim (λ t. omega arith) (λ t. omega arith) (passes r e)

pub chosen-small : (r : ℕ) → is_radius r ≡ true → r ≤ largest_radius
chosen-small r e = ⊎_elim (λ t. omega arith) (λ t. omega arith) (passes r e)
