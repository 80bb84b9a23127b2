-- Lists as rows of digits, in ASCII.
--     spelled f l           the texts that a rule gives for each number of a list, one behind the other
--     PutsEach post f       each call of a closure at a byte, whose calls `post` tells, puts the text that the rule gives for it
--     row l                 a digit for each number of a list: its last in decimal
--     hex_digit n            the last hexadecimal digit of a number, in lower case
--     hex_byte x             the two hexadecimal digits of a byte
--     hexadecimal bytes     those of each byte
use Rattle.std.specs.Prelude.{ℕ, ◌+◌, ◌/◌, ◌%◌, cond, List, [], ◌∷◌, ◌++◌, ltb}
use denote.MutBor.{MutBor}
use Rattle.text.specs.Pens.{Puts}
use Rattle.text.specs.declared.pen.Pen.{Pen}

unfoldable pub spelled : (ℕ → List ℕ) → List ℕ → List ℕ
spelled f [] = []
spelled f (x ∷ l) = f x ++ spelled f l

abbrev pub PutsEach : (MutBor Pen → ℕ → Unit {0} → MutBor Pen → Type 0) → (ℕ → List ℕ) → Type 0
PutsEach post f = (x : ℕ) (p q : MutBor Pen) → post p x tt q → Puts p.now q.now (f x)

abbrev pub row : List ℕ → List ℕ
row l = spelled (λ x. (48 + x % 10) ∷ []) l

abbrev pub hex_digit : ℕ → ℕ
hex_digit n = cond (ltb (n % 16) 10) (48 + n % 16) (87 + n % 16)

abbrev pub hex_byte : ℕ → List ℕ
hex_byte x = hex_digit (x / 16) ∷ hex_digit x ∷ []

abbrev pub hexadecimal : List ℕ → List ℕ
hexadecimal bytes = spelled hex_byte bytes
