-- Where a programme's bytes can be made.
--     ranged        number 0 is given where q is a programme and there are 2,048 elements
--     accepts       so they are there where nothing is refused
--     told          then they are put as any text is
--     refuses       else the refusal is answered
-- Assumes nothing.
use Prim.Native.Nat.{ℕ, ◌≤◌}
use mathlib.Core.Path.{◌≡◌, refl, sym, ap, ◌∙◌}
use mathlib.Core.List.{List}
use native.Mathlib.Omega.{arith}
use borrow.Author.Tests.{eq-eqb, ne_eqb, eqb-true, leb-true}
use lib.Dec.{eqb, leb}
use lib.ListN.{length}
use Rattle.std.specs.declared.result.Result.{Result}
use Rattle.std.specs.declared.result.Result.TheVariants.{Ok, Err}
use Rattle.bits.specs.Refused.{number_of, number_in}
use Rattle.bits.specs.declared.refusal.Refusal.{Refusal}
use Rattle.bits.proofs.Refused.{not_zero}
use Rattle.bits.proofs.Tests.{either_way}
use Rattle.text.specs.Page.{Page}
use Rattle.text.specs.Entry.{Entered, entered, entered_text}
use Rattle.wav.specs.Header.{refused_as}
use Rattle.wav_sound.specs.Sound.{programme_number, entered_of}

some-none : (n : ℕ) {A : Type 0} → 1 ≤ n → n ≡ 0 → A
some-none n h e = absurd (omega (arith, h, e))

pub ranged : (q n : ℕ) → programme_number q n ≡ 0 → (1 ≤ q) × (q ≤ 16) × (n ≡ 2048)
unfolding programme_number
ranged q n =
    either_way (eqb n 2048)
    (λ a. either_way (leb 1 q)
    (λ b. either_way (leb q 16) (λ d e. (leb-true 1 q b, leb-true q 16 d, eqb-true n 2048 a)) (λ d. rw (a, b, d) (some-none 2 (omega arith))))
    (λ b. rw (a, b) (some-none 2 (omega arith))))
    (λ a. rw a (some-none 1 (omega arith)))

pub accepts :
    (q n : ℕ) (r : Result (Unit {0}) Refusal) (x : Unit {0}) → number_in r ≡ programme_number q n → r ≡ Ok x → (1 ≤ q) × (q ≤ 16) × (n ≡ 2048)
accepts q n r x given e = ranged q n (sym given ∙ ap number_in e)

module _ {A : Type 0} (q : ℕ) (l : List A) (p : Page) (s : List ℕ) (r : Result (Unit {0}) Refusal) (given : number_in r ≡ programme_number q (length l)) where
  pub told : (a : Entered) (x : Unit {0}) → r ≡ Ok x → a ≡ entered_text p s → a ≡ entered_of q l p s
  unfolding entered_of
  told a x e h = rw (eq-eqb _ _ (sym given ∙ ap number_in e)) h

  pub refuses : (o : Refusal) → r ≡ Err o → entered {A = Unit {0}} (Err o) p ≡ entered_of q l p s
  unfolding entered_of refused_as
  refuses o e =
      let same : number_of o ≡ programme_number q (length l) = sym (ap number_in e) ∙ given in
      rw (← same, ne_eqb _ _ (not_zero o)) refl
