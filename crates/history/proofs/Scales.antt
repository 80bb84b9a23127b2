-- Scale words with wrong bits, and the sound of the second superframe after them (document 02, P4; document 01, "Scale words").
--     handed-nearest, handed-five   what a call hands out of a programme's 42 bits: the only nearest and its number of places, or number 5 at a tie
--     seven-ahead           THE THEOREM: with at most seven of the 42 bits wrong the factors come out as sent, with that number, and the second superframe after it
--                           sounds at what came out
-- Assumes nothing.
use mathlib.Core.Path.{◌≡◌, ap, subst, sym, ◌∙◌}
use mathlib.Core.Logic.{◌⊎◌}
use mathlib.Core.List.{List}
use Prim.Native.Nat.{ℕ, ◌≤◌}
use lib.ListN.{length}
use Rattle.bits.specs.Bits.{ones}
use Rattle.remainder.specs.Polynomial.{◌⊕◌}
use Rattle.nearest.specs.Document.{sent, Nearest, Tie}
use Rattle.tape.specs.Document.{entry}
use Rattle.beside.specs.Beside.{programmes_of}
use Rattle.beside.specs.Document.{scale_bits, ReadAs}
use Rattle.beside.specs.declared.Programmes.{Programmes}
use Rattle.beside.proofs.Scales.{read-nearest, five-tie, seven-read}
use Rattle.superframe.specs.declared.state.State.{State}
use Rattle.history.specs.Calls.{Call, Accepted, LostIn, HeardAt}
use Rattle.history.proofs.Ahead.{taken-programmes, two-ahead}
use Rattle.superframe.specs.Take.{next_state, handed}

module _ (s : State) (first : Call s) (a : Accepted first) (q : ℕ) (k : 1 ≤ q) (l : q ≤ 16) where
  are : (handed first.answer).programmes ≡ programmes_of first.bytes
  are = taken-programmes s first a

  pub handed-nearest : (x y n : ℕ) → ReadAs (handed first.answer).programmes q x y n → Nearest x y n (scale_bits first.bytes q)
  handed-nearest x y n h = read-nearest first.bytes q k l x y n (subst (λ (p : Programmes). ReadAs p q x y n) are h)

  pub handed-five : entry (handed first.answer).programmes.numbers q 0 ≡ 5 → Tie (scale_bits first.bytes q)
  handed-five e = five-tie first.bytes q k l (sym (ap (λ (p : Programmes). entry p.numbers q 0) are) ∙ e)

  pub seven-ahead : (second : Call (next_state first.answer)) (third : Call (next_state second.answer)) → Accepted second ⊎ LostIn second → Accepted third
      → (x y : ℕ) (mask : List ℕ) → x ≤ 7 → y ≤ 7 → length mask ≡ 42 → ones mask ≤ 7 → scale_bits first.bytes q ≡ sent x y ⊕ mask
      → ReadAs (handed first.answer).programmes q x y (ones mask) × HeardAt third (handed first.answer).programmes.factors
  seven-ahead second third b c x y mask h m size few e = (
    subst (λ (p : Programmes). ReadAs p q x y (ones mask)) (sym are) (seven-read first.bytes q k l x y mask h m size few e),
    subst (λ (p : Programmes). HeardAt third p.factors) (sym are) (two-ahead s first second third a b c),
  )
