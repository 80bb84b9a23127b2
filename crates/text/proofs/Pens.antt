-- Laws of text put by a pen.
--     puts_none         no text
--     puts_then         two texts one behind the other are put as one
--     puts_more         the first elements of a list and one more, as a loop puts them
--     puts_as           a text told by an equation
-- Assumes nothing.
use mathlib.Core.Path.{◌≡◌, refl, sym, ap, ◌∙◌}
use mathlib.Core.List.{List, [], ◌∷◌, ◌++◌}
use Prim.Native.Nat.{ℕ, ◌+◌, ◌<◌}
use native.Mathlib.Numerals.{add-one}
use lib.ListN.{length, get_or, take}
use lib.Seq.{take-suc}
use Rattle.text.specs.Page.{put_text}
use Rattle.text.specs.Pens.{on, Puts}
use Rattle.text.specs.declared.pen.Pen.{Pen}
use Rattle.text.proofs.Pages.{put_then}

pub puts_none : (a : Pen) → Puts a a []
unfolding put_text
puts_none a = record { same_buffer = refl; told = refl }

pub puts_as : {a b : Pen} {s t : List ℕ} → s ≡ t → Puts a b s → Puts a b t
puts_as {a} {b} e h = record { same_buffer = h.same_buffer; told = h.told ∙ ap (put_text (on a)) e }

pub puts_then : {a b c : Pen} {s t : List ℕ} → Puts a b s → Puts b c t → Puts a c (s ++ t)
puts_then {a} {b} {c} {s} {t} h k = record { same_buffer = k.same_buffer ∙ h.same_buffer; told = put_then (on a) (on b) (on c) s t h.told k.told }

pub puts_more : {a b c : Pen} (l : List ℕ) (i : ℕ) → i < length l → Puts a b (take i l) → Puts b c (get_or l i 0 ∷ []) → Puts a c (take (i + 1) l)
puts_more l i h p q = puts_as (sym (ap (λ (n : ℕ). take n l) (add-one i) ∙ take-suc l i 0 h)) (puts_then p q)
