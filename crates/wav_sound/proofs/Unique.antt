-- Any two results that meet a promise are the same: for `number_of`, `number-of-unique`; for `put_sound` and `put_marks`, `put-programme-unique`; for `put_lost`, `put-lost-unique`.
-- Assumes nothing.
use mathlib.Core.Path.{◌≡◌}
use mathlib.Core.List.{List}
use Prim.Native.Nat.{ℕ}
use Rattle.std.specs.declared.result.Result.{Result}
use Rattle.bits.specs.declared.refusal.Refusal.{Refusal}
use Rattle.bits.specs.Refused.{number_in}
use Rattle.bits.proofs.Unique.{same}
use Rattle.text.specs.Page.{Page}
use Rattle.text.specs.Entry.{entered}
use Rattle.text.proofs.Unique.{answered, entered-unique}
use Rattle.wav_sound.specs.Sound.{programme_number, entered_of, entered_lost}

pub number-of-unique : (q n : ℕ) (r r' : Result (Unit {0}) Refusal) → number_in r ≡ programme_number q n → number_in r' ≡ programme_number q n → r ≡ r'
number-of-unique q n r r' e e' = answered r r' (same e e')

module _ (p p' : Page) (r r' : Result (Unit {0}) Refusal) (start : Page) where
  pub put-programme-unique :
      {A : Type 0} (q : ℕ) (l : List A) (s : List ℕ) → entered r p ≡ entered_of q l start s → entered r' p' ≡ entered_of q l start s → (p ≡ p') × (r ≡ r')
  put-programme-unique q l s = entered-unique p p' r r' (entered_of q l start s)

  pub put-lost-unique : (b : ℕ) → entered r p ≡ entered_lost start b → entered r' p' ≡ entered_lost start b → (p ≡ p') × (r ≡ r')
  put-lost-unique b = entered-unique p p' r r' (entered_lost start b)
