-- Laws of the order of refusals.
--     Tells fault clear     a test that passes exactly where a fault is not there
--     tells-not             the test of something that is not so
--     tells-length          the test of a length that is another than n
--     tells-false           the test of something whose failing is the fault
--     tested                a test before the rest of an order gives the number of its fault first
--     as-told               and no other numbers are in that order: where the fault can be told, the number is the one that the test gives
--     no-fault              where another number is answered there is none of the fault that has this one
--     past                  and the rest of the order holds
--     given                 a number that the rest never gives is given only where its fault is there
-- Assumes nothing.
use mathlib.Core.Path.{◌≡◌, refl, sym, ◌∙◌}
use mathlib.Core.Bool.{Bool, true, false, true≢false, cond}
use mathlib.Core.Logic.{◌≢◌}
use Prim.Native.Nat.{ℕ}
use lib.Dec.{eqb}
use borrow.Author.Tests.{eqb-true, eq-eqb}
use Rattle.bits.specs.Order.{Refused}

pub record Tells (fault : Type 0) (clear : Bool) : Type 0 where
  pub there : clear ≡ false → fault
  pub away : clear ≡ true → fault → ⊥

pub tells-not : {so : Type 0} (b : Bool) → (b ≡ true → so) → (so → b ≡ true) → Tells (so → ⊥) b
tells-not b h k = record { there = λ e s. true≢false (sym (k s) ∙ e); away = λ e f. f (h e) }

pub tells-length : (l n : ℕ) → Tells (l ≢ n) (eqb l n)
tells-length l n = tells-not (eqb l n) (eqb-true l n) (eq-eqb l n)

pub tells-false : (b : Bool) → Tells (b ≡ false) b
tells-false b = record { there = λ e. e; away = λ e f. true≢false (sym e ∙ f) }

module _ {fault : Type 0} {k : ℕ} {rest : ℕ → Type 0} where
  pub tested : (clear : Bool) (m : ℕ) → Tells fault clear → rest m → Refused fault k rest (cond clear m k)
  tested true m t r = record { there = λ f. absurd (t.away refl f); away = λ _. r }
  tested false m t r = record { there = λ _. refl; away = λ f. absurd (f (t.there refl)) }

  module _ {n : ℕ} (o : Refused fault k rest n) where
    pub as-told : (clear : Bool) (m : ℕ) → Tells fault clear → (rest n → n ≡ m) → n ≡ cond clear m k
    as-told true m t r = r (o.away (t.away refl))
    as-told false m t r = o.there (t.there refl)

    pub no-fault : n ≢ k → fault → ⊥
    no-fault h f = h (o.there f)

    pub past : n ≢ k → rest n
    past h = o.away (no-fault h)

    pub given : (clear : Bool) → Tells fault clear → (rest n → n ≢ k) → n ≡ k → fault
    given true t r e = absurd (r (o.away (t.away refl)) e)
    given false t r e = t.there refl
