-- Texts that follow one another.
--     next n            a blank, and a number in decimal
--     in_turn n f        the texts f 0, f 1, .., f (n - 1), one behind the other
--     PutsTurns post n f    each call of a closure at a number below n, whose calls `post` tells, puts the text of its number
--     part n i l        part i of a list that is cut into parts of n; parts count from 0
use Rattle.std.specs.Prelude.{ℕ, zero, suc, ◌*◌, ◌<◌, List, [], ◌∷◌, ◌++◌, take, drop}
use denote.MutBor.{MutBor}
use Rattle.text.specs.Digits.{blank, decimal}
use Rattle.text.specs.Pens.{Puts}
use Rattle.text.specs.declared.pen.Pen.{Pen}

abbrev pub next : ℕ → List ℕ
next n = blank ∷ decimal n

unfoldable pub in_turn : ℕ → (ℕ → List ℕ) → List ℕ
in_turn zero f = []
in_turn (suc n) f = in_turn n f ++ f n

abbrev pub part : {A : Type 0} → ℕ → ℕ → List A → List A
part n i l = take n (drop (n * i) l)

abbrev pub PutsTurns : (MutBor Pen → ℕ → Unit {0} → MutBor Pen → Type 0) → ℕ → (ℕ → List ℕ) → Type 0
PutsTurns post n f = (i : ℕ) (p q : MutBor Pen) → i < n → post p i tt q → Puts p.now q.now (f i)
