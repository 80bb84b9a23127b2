-- Laws of lists spelled by a rule.
--     spells_none, spells_more      the text of no element, and of one more, as a loop puts it
--     length-row, length-hex      how long they are
-- Assumes nothing.
use mathlib.Core.Path.{◌≡◌, refl, sym, ap, ◌∙◌}
use mathlib.Core.List.{List, [], ◌∷◌, ◌++◌, append_assoc, append-nil}
use Prim.Native.Nat.{ℕ, ◌+◌, ◌*◌, ◌<◌}
use native.Mathlib.Nat.{suc-mul}
use native.Mathlib.Numerals.{add-one}
use native.Mathlib.Omega.{arith}
use lib.ListN.{length, get_or, take, length-append}
use lib.Seq.{take-suc}
use Rattle.text.specs.Pens.{Puts}
use Rattle.text.specs.declared.pen.Pen.{Pen}
use Rattle.text_rows.specs.Rows.{spelled, row, hex_byte, hexadecimal}
use Rattle.text.proofs.Pens.{puts_none, puts_as, puts_then}

module _ (f : ℕ → List ℕ) where
  spelled-append : (l m : List ℕ) → spelled f (l ++ m) ≡ spelled f l ++ spelled f m
  unfolding spelled
  spelled-append [] m = refl
  spelled-append (x ∷ l) m = ap (λ (r : List ℕ). f x ++ r) (spelled-append l m) ∙ sym (append_assoc (f x) (spelled f l) (spelled f m))

  spelled-one : (x : ℕ) → spelled f (x ∷ []) ≡ f x
  unfolding spelled
  spelled-one x = append-nil (f x)

  one_more : (l : List ℕ) (i : ℕ) → i < length l → spelled f (take (i + 1) l) ≡ spelled f (take i l) ++ f (get_or l i 0)
  one_more l i h =
      ap (spelled f) (ap (λ (n : ℕ). take n l) (add-one i) ∙ take-suc l i 0 h)
      ∙ spelled-append (take i l) (get_or l i 0 ∷ [])
      ∙ ap (λ (r : List ℕ). spelled f (take i l) ++ r) (spelled-one (get_or l i 0))

  pub spells_none : (a : Pen) → Puts a a (spelled f [])
  unfolding spelled
  spells_none a = puts_none a

  pub spells_more :
      {a b c : Pen} (l : List ℕ) (i : ℕ) → i < length l → Puts a b (spelled f (take i l)) → Puts b c (f (get_or l i 0)) → Puts a c (spelled f (take (i + 1) l))
  spells_more l i h p q = puts_as (sym (one_more l i h)) (puts_then p q)

  length-spelled : (k : ℕ) → ((x : ℕ) → length (f x) ≡ k) → (l : List ℕ) → length (spelled f l) ≡ length l * k
  unfolding spelled
  length-spelled k h [] = omega arith
  length-spelled k h (x ∷ l) = rw (length-append (f x) (spelled f l), h x, length-spelled k h l, suc-mul (length l) k) (omega arith)

pub length-row : (l : List ℕ) → length (row l) ≡ length l
length-row l = length-spelled _ 1 (λ x. refl) l ∙ omega arith

pub length-hex : (l : List ℕ) → length (hexadecimal l) ≡ 2 * length l
length-hex l = length-spelled hex_byte 2 (λ x. refl) l ∙ omega arith
