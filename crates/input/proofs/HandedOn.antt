-- Laws of what is handed on.
--     handed_none      nothing was yet
--     handed_next      what was, and one more
--     handed_from      from a place told by an equation on
-- Assumes nothing.
use mathlib.Core.Path.{◌≡◌, sym, subst}
use Prim.Native.Nat.{ℕ, ◌+◌}
use Rattle.input.specs.HandedOn.{HandedOn, none, next}

module _ {F : Type 0} {step : F → ℕ → F → Type 0} where
  pub handed_none : {a n : ℕ} {f : F} → n ≡ a → HandedOn step a f n f
  handed_none {a} {n} {f} e = subst (λ (m : ℕ). HandedOn step a f m f) (sym e) none

  pub handed_next : {a n k : ℕ} {f g h : F} → HandedOn step a f n g → n ≡ k → step g k h → HandedOn step a f (k + 1) h
  handed_next {a} {n} {k} {f} {g} {h} p e s = next (subst (λ (m : ℕ). HandedOn step a f m g) e p) s

  pub handed_from : {a b n : ℕ} {f g : F} → a ≡ b → HandedOn step a f n g → HandedOn step b f n g
  handed_from {a} {b} {n} {f} {g} e p = subst (λ (m : ℕ). HandedOn step m f n g) e p
