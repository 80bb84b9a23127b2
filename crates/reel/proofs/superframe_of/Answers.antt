-- `reel::superframe_of` meets its contract. Assumes nothing.
use mathlib.Core.Path.{◌≡◌, sym, ap, ◌∙◌}
use Prim.Native.Nat.{ℕ, ◌+◌, ◌-◌, ◌*◌, ◌≤◌}
use native.Mathlib.Omega.{arith}
use borrow.Author.Tests.{ne_eqb, eq-eqb}
use borrow.Author.Rules.{rules}
use mathlib.Core.List.{List}
use lib.ListN.{length, take, drop}
use Rattle.bits.specs.Refused.{number_in}
use Rattle.bits.proofs.Refused.{not_zero}
use Rattle.reel.specs.Run.{superframe_bytes, superframe, part_number, part_of}
use Rattle.reel.proofs.Run.{run-lengths, part-there}
use Rattle.reel.proofs.superframe_of.Goals as goal

-- what number 0 says of the place
inside : (run : List ℕ) (k : ℕ) → part_number run k ≡ 0 → (1 ≤ k) × (k * superframe_bytes ≤ length run)
inside run k e =
    let there = part-there run k e in
    let size = run-lengths run there.0 in
    (there.1, omega (arith, there.2))

pub returns-in-Err : goal.returns-in-Err
unfolding part_of
returns-in-Err c =
    rw (ne_eqb (part_number c.args.run.now c.args.k) 0 (λ e. not_zero c.in-Err.field-0 (sym (ap number_in c.in-Err.is) ∙ c.superframe_number_of.ensures ∙ e)))

pub overflow_sub-start : goal.overflow_sub-start
overflow_sub-start c = let i = inside _ _ (sym c.superframe_number_of.ensures ∙ ap number_in c.in-Ok.is) in search rules

pub overflow_mul-start : goal.overflow_mul-start
overflow_mul-start c = let i = inside _ _ (sym c.superframe_number_of.ensures ∙ ap number_in c.in-Ok.is) in search rules

pub overflow_add-end : goal.overflow_add-end
overflow_add-end c = let i = inside _ _ (sym c.superframe_number_of.ensures ∙ ap number_in c.in-Ok.is) in search rules

pub slice_bounds-result-end-in-Ok : goal.slice_bounds-result-end-in-Ok
slice_bounds-result-end-in-Ok c = let i = inside _ _ (sym c.superframe_number_of.ensures ∙ ap number_in c.in-Ok.is) in search rules

pub returns-in-Ok : goal.returns-in-Ok
unfolding part_of superframe
returns-in-Ok c =
    let a = c.args in
    let size : (a.k - 1) * superframe_bytes + superframe_bytes - (a.k - 1) * superframe_bytes ≡ superframe_bytes = omega arith in
    rw (eq-eqb (part_number a.run.now a.k) 0 (sym c.superframe_number_of.ensures ∙ ap number_in c.in-Ok.is))
    (ap (λ (n : ℕ). take n (drop ((a.k - 1) * superframe_bytes) a.run.now)) size)
