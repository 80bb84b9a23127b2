-- What a programme byte reads as, by its parity.
--     heard       where it is read, it has even parity, and its values are those of the byte
--     unheard     where it is refused, or is not read, its parity is odd
-- Assumes nothing.
use Prim.Native.Nat.{ℕ}
use mathlib.Core.Path.{◌≡◌, refl, ap, ◌∙◌}
use mathlib.Core.Bool.{true, false}
use mathlib.Core.List.{[], ◌∷◌}
use Rattle.std.specs.declared.result.Result.{Result}
use Rattle.std.specs.declared.result.Result.TheVariants.{Ok, Err}
use Rattle.bits.specs.Answer.{Answer, accepted, refused}
use Rattle.bits.specs.declared.refusal.Refusal.{Refusal}
use Rattle.bits.proofs.Answer.{accepted-same}
use Rattle.bits.proofs.Refused.{not_zero}
use Rattle.bits.proofs.Tests.{either_way}
use Rattle.programme.specs.Byte.{kind, music, mode, even, read_byte, read_answer}
use Rattle.programme.specs.declared.Programme.{Programme}

even-read : (b : ℕ) → even b ≡ true → read_byte b ≡ accepted (kind b ∷ music b ∷ mode b ∷ [])
unfolding read_byte
even-read b h = rw h refl

odd-read : (b : ℕ) → even b ≡ false → read_byte b ≡ refused 6
unfolding read_byte
odd-read b h = rw h refl

none-six : {P : Type 0} → ◌≡◌ {A = ℕ} 0 6 → P
none-six e = cc

module _ (b : ℕ) where
  pub heard : (p : Programme) → read_answer (Ok p) ≡ read_byte b → (even b ≡ true) × (p ≡ record { kind = kind b; music = music b; mode = mode b })
  heard p e =
      either_way (even b)
      (λ h. let l : p.kind ∷ p.music ∷ p.mode ∷ [] ≡ kind b ∷ music b ∷ mode b ∷ [] = accepted-same (e ∙ even-read b h) in
      let k : p.kind ≡ kind b = cc in
      let m : p.music ≡ music b = cc in
      let o : p.mode ≡ mode b = cc in
      (h, λ i. record { kind = k i; music = m i; mode = o i }))
      (λ h. none-six (ap (λ (a : Answer ℕ). a.number) (e ∙ odd-read b h)))

  refused-odd : (o : Refusal) → read_answer (Err o) ≡ read_byte b → even b ≡ false
  refused-odd o e =
      either_way (even b)
      (λ h. absurd (not_zero o (ap (λ (a : Answer ℕ). a.number) (e ∙ even-read b h))))
      (λ h. h)

  pub unheard : (r : Result Programme Refusal) → ((p : Programme) → r ≡ Ok p → ⊥) → read_answer r ≡ read_byte b → even b ≡ false
  unheard (Ok p) none e = absurd (none p refl)
  unheard (Err o) none e = refused-odd o e
