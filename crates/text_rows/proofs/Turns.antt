-- Laws of texts put in turn.
--     turn_more         one text more, as a loop puts it
--     turn-line         a line: a word, so many texts, an end
--     part_cut          a part as the code cuts it, from its first place to behind its last
--     length-turns      texts of at most so many characters each
--     length_part       a part has at most so many elements
-- Assumes nothing.
use mathlib.Core.Path.{◌≡◌, ap, ◌∙◌}
use mathlib.Core.List.{List, ◌++◌}
use Prim.Native.Nat.{ℕ, zero, suc, ◌+◌, ◌*◌, ◌-◌, ◌≤◌, ◌<◌}
use native.Mathlib.Nat.{suc-mul, min-le_left}
use native.Mathlib.Numerals.{add-one}
use native.Mathlib.Omega.{arith}
use lib.ListN.{length, take, drop, length-append, length-take}
use Rattle.text.specs.Page.{Page, put_text}
use Rattle.text.proofs.Pages.{put_then}
use Rattle.text.specs.Pens.{Puts}
use Rattle.text.specs.declared.pen.Pen.{Pen}
use Rattle.text.proofs.Pens.{puts_none, puts_then}
use Rattle.text_rows.specs.Turns.{in_turn, part}

pub turns_none : (a : Pen) (f : ℕ → List ℕ) → Puts a a (in_turn 0 f)
unfolding in_turn
turns_none a f = puts_none a

pub turns_more : {a b c : Pen} (f : ℕ → List ℕ) (i : ℕ) → Puts a b (in_turn i f) → Puts b c (f i) → Puts a c (in_turn (i + 1) f)
unfolding in_turn
turns_more f i p q = rw (add-one i) (puts_then p q)

-- p after i texts, q after one more
pub turn_more :
    (start p q : Page) (f : ℕ → List ℕ) (i : ℕ) → p ≡ put_text start (in_turn i f) → q ≡ put_text p (f i) → q ≡ put_text start (in_turn (i + 1) f)
unfolding in_turn
turn_more start p q f i e g = rw (add-one i) (put_then start p q (in_turn i f) (f i) e g)

pub turn-line :
    (start p q r : Page) (word end : List ℕ) (f : ℕ → List ℕ) (i n : ℕ) → i ≡ n
    → p ≡ put_text start word → q ≡ put_text p (in_turn i f) → r ≡ put_text q end → r ≡ put_text start (word ++ (in_turn n f ++ end))
turn-line start p q r word end f i n same e g h =
    put_then start p r word (in_turn n f ++ end) e (put_then p q r (in_turn n f) end (g ∙ ap (λ (k : ℕ). put_text p (in_turn k f)) same) h)

pub part_cut : {A : Type 0} (n i : ℕ) (l : List A) → take (n * i + n - n * i) (drop (n * i) l) ≡ part n i l
part_cut n i l = ap (λ (k : ℕ). take k (drop (n * i) l)) (width (n * i) n)
  where
    width : (a k : ℕ) → a + k - a ≡ k
    width a k = omega arith

pub length-turns : (most n : ℕ) (f : ℕ → List ℕ) → ((i : ℕ) → i < n → length (f i) ≤ most) → length (in_turn n f) ≤ n * most
unfolding in_turn
length-turns most zero f h = omega arith
length-turns most (suc n) f h =
    let rest = length-turns most n f (λ i l. h i (omega arith)) in
    let one = h n (omega arith) in
    rw (length-append (in_turn n f) (f n), suc-mul n most) (omega (arith, rest, one))

pub length_part : {A : Type 0} (n i : ℕ) (l : List A) → length (part n i l) ≤ n
length_part n i l = rw (length-take n (drop (n * i) l)) (min-le_left n (length (drop (n * i) l)))
