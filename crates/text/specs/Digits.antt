-- Numbers as text, in ASCII.
--     blank           a space
--     decimal n       a number in decimal, with no zero in front
--     signed z        the same with a minus before a number below 0
use Prim.Native.Char.{code}
use Rattle.std.specs.Prelude.{ℕ, zero, suc, ◌+◌, ◌/◌, ◌%◌, cond, List, [], ◌∷◌, ◌++◌, ltb, ℤ, pos, negsuc}

abbrev pub blank : ℕ
blank = code " "

-- at most k digits
unfoldable pub decimal_in : ℕ → ℕ → List ℕ
decimal_in zero n = []
decimal_in (suc k) n = cond (ltb n 10) ((48 + n) ∷ []) (decimal_in k (n / 10) ++ ((48 + n % 10) ∷ []))

-- a number has at most as many digits as one more than itself
abbrev pub decimal : ℕ → List ℕ
decimal n = decimal_in (suc n) n

abbrev pub signed : ℤ → List ℕ
signed (pos n) = decimal n
signed (negsuc n) = 45 ∷ decimal (suc n)
