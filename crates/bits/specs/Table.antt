-- Lists given by a rule.
--     tabulate n f      f 0, f 1, .., f (n - 1)
--     zeros n           n times 0: places that carry nothing, coefficients
--     every f l         whether a test passes at each element of a list
--     All P l           P of each element of a list
--     total f l         a number added up over the elements of a list
-- A table grows at its end, as a loop that fills a list from the front does.
use Rattle.std.specs.Prelude.{Bool, true, ◌&&◌, List, [], ◌∷◌, ◌++◌, ℕ, zero, suc, ◌+◌, replicate}

unfoldable pub tabulate : {A : Type 0} → ℕ → (ℕ → A) → List A
tabulate zero f = []
tabulate (suc n) f = tabulate n f ++ (f n ∷ [])

abbrev pub zeros : ℕ → List ℕ
zeros n = replicate n 0

unfoldable pub every : {A : Type 0} → (A → Bool) → List A → Bool
every f [] = true
every f (x ∷ l) = f x && every f l

unfoldable pub All : {A : Type 0} → (A → Type 0) → List A → Type 0
All P [] = Unit {0}
All P (x ∷ l) = P x × All P l

unfoldable pub total : {A : Type 0} → (A → ℕ) → List A → ℕ
total f [] = 0
total f (x ∷ l) = f x + total f l
