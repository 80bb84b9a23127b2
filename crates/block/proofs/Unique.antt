-- Any two results that meet a promise are the same: for each public function, `FUNCTION-unique`.
--     unspoken, back    a reading of the code, from what it stands for
-- Assumes nothing.
use mathlib.Core.Path.{◌≡◌, refl, sym, ap, ap₂, ◌∙◌}
use mathlib.Core.List.{List, [], ◌∷◌}
use Prim.Native.Nat.{ℕ}
use Rattle.std.specs.declared.result.Result.{Result}
use Rattle.std.specs.declared.result.Result.TheVariants.{Ok, Err}
use Rattle.bits.specs.declared.refusal.Refusal.{Refusal}
use Rattle.bits.specs.Answer.{Answer}
use Rattle.bits.proofs.Unique.{same}
use Rattle.bits.proofs.Answer.{accepted-same}
use Rattle.bits.proofs.Refused.{not_zero, number-same}
use Rattle.block.specs.Read.{Said, clean, mended, bad, spoken, IsRead}
use Rattle.block.specs.declared.BlockReading.{BlockReading}
use Rattle.block.specs.declared.BlockReading.TheVariants.{Clean, Mended, Bad}
use Rattle.block.specs.declared.BlockRead.{BlockRead}

unspoken : Said → BlockReading
unspoken clean = Clean
unspoken (mended n) = Mended n
unspoken bad = Bad

back : (r : BlockReading) → unspoken (spoken r) ≡ r
unfolding spoken unspoken
back Clean = refl
back (Mended n) = refl
back Bad = refl

head_is : {x y : Said} → x ∷ [] ≡ y ∷ [] → x ≡ y
head_is e = cc

pub read-unique : (radius : ℕ) (block : List ℕ) (r r' : Result BlockRead Refusal) → IsRead radius block r → IsRead radius block r' → r ≡ r'
read-unique radius block (Ok x) (Ok y) p q =
    ap Ok
    (ap₂ (λ (reading : BlockReading) (bits : List ℕ). record { reading = reading; bits = bits })
    (sym (back x.reading) ∙ ap unspoken (head_is (accepted-same (same p.answer q.answer))) ∙ back y.reading)
    (same p.bits q.bits))
read-unique radius block (Ok x) (Err e) p q = absurd (not_zero e (sym (ap (λ (a : Answer Said). a.number) (same p.answer q.answer))))
read-unique radius block (Err e) (Ok y) p q = absurd (not_zero e (ap (λ (a : Answer Said). a.number) (same p.answer q.answer)))
read-unique radius block (Err e) (Err f) p q = ap Err (number-same e f (ap (λ (a : Answer Said). a.number) (same p.answer q.answer)))
