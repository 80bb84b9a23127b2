-- How the tables are computed.
--     forced            a list handed on as values: one that is handed on as a call would be computed anew at each use
--     forced-is         and what comes of it is what comes of the list
--     computed          what is made of the columns' numbers, computed from the generator's coefficients written out
--     computed-is       and that it is
-- Assumes nothing.
use mathlib.Core.Path.{◌≡◌, refl, ap, ◌∙◌}
use mathlib.Core.List.{List, [], ◌∷◌, map}
use Prim.Native.Nat.{ℕ, zero, suc}
use Rattle.bits.specs.Digits.{value}
use Rattle.remainder.specs.Columns.{columns}
use Rattle.code.proofs.Numbers.{block-coefficients}
use Rattle.reading.specs.Wrong.{column_numbers}

unfoldable pub forced : {R : Type 0} → List ℕ → (List ℕ → R) → R
forced [] k = k []
forced (zero ∷ xs) k = forced xs (λ r. k (zero ∷ r))
forced (suc x ∷ xs) k = forced xs (λ r. k (suc x ∷ r))

pub forced-is : {R : Type 0} (xs : List ℕ) (k : List ℕ → R) → forced xs k ≡ k xs
unfolding forced
forced-is [] k = refl
forced-is (zero ∷ xs) k = forced-is xs (λ r. k (zero ∷ r))
forced-is (suc x ∷ xs) k = forced-is xs (λ r. k (suc x ∷ r))

unfoldable pub computed : {R : Type 0} → (List ℕ → R) → List ℕ → R
computed k g = forced (map (value 2) (columns g 63)) k

pub computed-is : {R : Type 0} (k : List ℕ → R) → computed k (0 ∷ 0 ∷ 0 ∷ 1 ∷ 0 ∷ 0 ∷ 0 ∷ 0 ∷ 1 ∷ 1 ∷ 1 ∷ 0 ∷ 1 ∷ 0 ∷ 1 ∷ 0 ∷ 0 ∷ 0 ∷ 1 ∷ []) ≡ k column_numbers
unfolding computed column_numbers
computed-is k = ap (computed k) block-coefficients ∙ forced-is column_numbers k
