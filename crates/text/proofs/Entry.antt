-- What entry points that put a text answer. Each puts its text first on another page, q, from the same place on: the place behind says whether it fits.
--     entered-fits       a text that fits is accepted
--     entered-short      a text that is refused on the other page: the page stays as it was
--     entered-whole      one that is accepted there: it is put, and nothing is left out
-- Assumes nothing.
use mathlib.Core.Path.{◌≡◌, sym, ap, ◌∙◌}
use mathlib.Core.List.{List, ◌++◌}
use Prim.Native.Nat.{ℕ, ◌+◌, ◌^◌, ◌≤◌, ◌<◌}
use native.Mathlib.Nat.{le_refl}
use native.Mathlib.Omega.{arith}
use borrow.Author.Tests.{lt-ltb, le-ltb, ltb-false, ltb-true}
use lib.Dec.{ltb}
use lib.ListN.{length, take, drop}
use Rattle.std.specs.declared.result.Result.TheVariants.{Ok, Err}
use Rattle.bits.specs.Refused.{number_of, number_in}
use Rattle.bits.specs.declared.refusal.Refusal.{Refusal}
use Rattle.bits.specs.declared.refusal.Refusal.TheVariants.{Length}
use Rattle.bits.proofs.Tests.{either_way}
use Rattle.text.specs.Page.{Page, page, put_text}
use Rattle.text.specs.Entry.{placed_within, entered, refused_text, entered_text}
use Rattle.text.proofs.Pages.{within-put, put-within, put-fits}

pub entered-fits :
    (bytes s : List ℕ) (at : ℕ) → at + length s ≤ length bytes →
    entered_text (page bytes at) s ≡ record { number = 0; page = page ((take at bytes ++ s) ++ drop (at + length s) bytes) (at + length s) }
unfolding entered_text
entered-fits bytes s at h = rw (le-ltb (length bytes) (at + length s) h)

entered-long : (bytes s : List ℕ) (at : ℕ) → length bytes < at + length s → entered_text (page bytes at) s ≡ refused_text (page bytes at)
unfolding entered_text
entered-long bytes s at h = rw (lt-ltb (length bytes) (at + length s) h)

refused : (n end : ℕ) → n < end → placed_within n end ≡ Err Length
unfolding placed_within
refused n end h = rw (lt-ltb n end h)

accepted : (n end : ℕ) → end ≤ n → placed_within n end ≡ Ok end
unfolding placed_within
accepted n end h = rw (le-ltb n end h)

module _ (bytes other s : List ℕ) (at : ℕ) (q : Page) (measured : q ≡ put_text (page other at) s) where
  behind : q.place ≡ (put_text (page other at) s).place
  behind = ap (λ (p : Page). p.place) measured

  -- by where the text ends
  ends : {P : Type 0} → (length bytes < q.place → P) → (q.place ≤ length bytes → P) → P
  ends f g = either_way (ltb (length bytes) q.place) (λ e. f (ltb-true _ _ e)) (λ e. g (ltb-false _ _ e))

  long : length bytes < q.place → length bytes < at + length s
  long h =
      either_way (ltb (length bytes) (at + length s)) (λ e. ltb-true _ _ e)
      (λ e. let l = within-put (page other at) s (length bytes) (ltb-false _ _ e) in absurd (omega (arith, h, l, behind)))

  pub entered-short :
      (r : Refusal) → Err r ≡ placed_within (length bytes) q.place → entered {A = Unit {0}} (Err r) (page bytes at) ≡ entered_text (page bytes at) s
  unfolding refused_text
  entered-short r e =
      ends
      (λ h.
      let one : number_of r ≡ 1 = ap number_in (e ∙ refused (length bytes) q.place h) in
      ap (λ (n : ℕ). record { number = n; page = page bytes at }) one ∙ sym (entered-long bytes s at (long h)))
      (λ h. let other : Err r ≡ Ok q.place = e ∙ accepted (length bytes) q.place h in cc)

  -- the text ends there
  exactly : q.place < 2 ^ 63 → q.place ≡ at + length s
  exactly m =
      let l = put-within (page other at) s q.place (omega (arith, m)) (omega (arith, behind)) in
      let g = within-put (page other at) s (at + length s) (le_refl (at + length s)) in
      omega (arith, l, g, behind)

  pub entered-whole :
      (p : Page) (n : ℕ) → length bytes < 2 ^ 63 → Ok n ≡ placed_within (length bytes) q.place → p ≡ put_text (page bytes at) s →
      entered {A = Unit {0}} (Ok tt) p ≡ entered_text (page bytes at) s
  entered-whole p n m e put =
      ends
      (λ h. let other : Ok n ≡ Err Length = e ∙ refused (length bytes) q.place h in cc)
      (λ h.
      let there = exactly (omega (arith, m, h)) in
      let l : at + length s ≤ length bytes = omega (arith, there, h) in
      ap (λ (p : Page). record { number = 0; page = p }) (put ∙ put-fits bytes s at (omega (arith, m)) l) ∙ sym (entered-fits bytes s at l))
