-- Numbers and their digits in a base, the highest digit first: base 2 for bits, base 256 for bytes.
--     value b ds        the number with the digits ds
--     digits b n x      the n lowest digits of x
--     Below b ds        each of ds is a digit: less than b
use Rattle.std.specs.Prelude.{ℕ, zero, suc, ◌+◌, ◌*◌, ◌/◌, ◌%◌, ◌^◌, ◌<◌, List, [], ◌∷◌, ◌++◌, length}

-- a digit counts b to the power of the number of digits behind it
unfoldable pub value : ℕ → List ℕ → ℕ
value b [] = 0
value b (d ∷ ds) = d * b ^ length ds + value b ds

unfoldable pub digits : ℕ → ℕ → ℕ → List ℕ
digits b zero x = []
digits b (suc n) x = digits b n (x / b) ++ (x % b ∷ [])

unfoldable pub Below : ℕ → List ℕ → Type 0
Below b [] = Unit {0}
Below b (d ∷ ds) = (d < b) × Below b ds
