-- Laws of refusals.
--     not_zero          no refusal has number 0
--     number-same       two refusals of one number are the same
--     told-same         two answers that say the same in document 01's terms are the same, where the values tell what was accepted
--     same_number       and so are two answers of one number, where nothing is handed out
--     ok_same           what two equal answers accepted is equal
--     unrefused         number 0 is given exactly where something is accepted
-- Assumes nothing.
use mathlib.Core.Path.{◌≡◌, refl, sym, ap, ◌∙◌}
use mathlib.Core.List.{List}
use Prim.Native.Nat.{ℕ, zero, suc}
use Rattle.std.specs.declared.result.Result.{Result}
use Rattle.std.specs.declared.result.Result.TheVariants.{Ok, Err}
use Rattle.bits.specs.declared.refusal.Refusal.{Refusal}
use Rattle.bits.specs.declared.refusal.Refusal.TheVariants.{Length, Range, Sync, Scale, Parity, Header, Full}
use Rattle.bits.specs.Answer.{Answer}
use Rattle.bits.specs.Refused.{number_of, told, number_in}

-- the refusal of a number
back : ℕ → Refusal
back zero = Full
back (suc zero) = Length
back (suc (suc zero)) = Range
back (suc (suc (suc zero))) = Sync
back (suc (suc (suc (suc zero)))) = Full
back (suc (suc (suc (suc (suc zero))))) = Scale
back (suc (suc (suc (suc (suc (suc zero)))))) = Parity
back (suc (suc (suc (suc (suc (suc (suc zero))))))) = Full
back (suc (suc (suc (suc (suc (suc (suc (suc zero)))))))) = Header
back (suc (suc (suc (suc (suc (suc (suc (suc (suc _))))))))) = Full

back-of : (r : Refusal) → back (number_of r) ≡ r
unfolding back
back-of Length = refl
back-of Range = refl
back-of Sync = refl
back-of Scale = refl
back-of Parity = refl
back-of Header = refl
back-of Full = refl

pub not_zero : (r : Refusal) → number_of r ≡ 0 → ⊥
not_zero Length e = cc
not_zero Range e = cc
not_zero Sync e = cc
not_zero Scale e = cc
not_zero Parity e = cc
not_zero Header e = cc
not_zero Full e = cc

pub number-same : (r s : Refusal) → number_of r ≡ number_of s → r ≡ s
number-same r s e = sym (back-of r) ∙ ap back e ∙ back-of s

module _ {A B : Type 0} (f : A → List B) where
  pub told-same : ((x y : A) → f x ≡ f y → x ≡ y) → (r s : Result A Refusal) → told f r ≡ told f s → r ≡ s
  told-same same (Ok x) (Ok y) e = ap Ok (same x y (ap (λ (a : Answer B). a.values) e))
  told-same same (Ok x) (Err s) e = absurd (not_zero s (sym (ap (λ (a : Answer B). a.number) e)))
  told-same same (Err r) (Ok y) e = absurd (not_zero r (ap (λ (a : Answer B). a.number) e))
  told-same same (Err r) (Err s) e = ap Err (number-same r s (ap (λ (a : Answer B). a.number) e))

pub ok_same : {A : Type 0} {x y : A} → ◌≡◌ {A = Result A Refusal} (Ok x) (Ok y) → x ≡ y
ok_same e = cc

pub same_number : (r s : Result (Unit {0}) Refusal) → number_in r ≡ number_in s → r ≡ s
same_number (Ok _) (Ok _) e = refl
same_number (Ok _) (Err s) e = absurd (not_zero s (sym e))
same_number (Err r) (Ok _) e = absurd (not_zero r e)
same_number (Err r) (Err s) e = ap Err (number-same r s e)

pub unrefused : {A : Type 0} (r : Result A Refusal) → number_in r ≡ 0 → (x : A) × (r ≡ Ok x)
unrefused (Ok x) e = (x, refl)
unrefused (Err r) e = absurd (not_zero r e)
