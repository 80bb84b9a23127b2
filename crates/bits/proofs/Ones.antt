-- Laws of the number of ones.
--     ones-more         ones of a table with one entry more
--     ones-take         the first entries have no more ones than all
--     ones-window       entries that are even outside w places in a row: at most w ones
--     count-digits      the ones of a number, as the processor counts them, are those of its binary digits
-- Assumes nothing.
use mathlib.Core.Path.{◌≡◌, refl, ap, ◌∙◌}
use mathlib.Core.List.{List, [], ◌∷◌, ◌++◌}
use Prim.Native.Nat.{ℕ, zero, suc, ◌+◌, ◌-◌, ◌/◌, ◌%◌, ◌^◌, ◌<◌, ◌≤◌}
use native.Mathlib.Decide.{dec_le}
use native.Mathlib.Numerals.{add-one}
use native.Mathlib.Omega.{arith}
use lib.Count as Count
use lib.ListN.{take}
use lib.Pow.{shr_lt}
use Rattle.bits.specs.Table.{tabulate}
use Rattle.bits.specs.Bits.{ones}
use Rattle.bits.specs.Digits.{digits}
use Rattle.bits.proofs.Bits.{ones-append}

pub ones-more : (n : ℕ) (f : ℕ → ℕ) → ones (tabulate (n + 1) f) ≡ ones (tabulate n f) + f n % 2
unfolding tabulate ones
ones-more n f = rw (add-one, ones-append (tabulate n f) (f n ∷ [])) (omega arith)

pub ones-take : (n : ℕ) (l : List ℕ) → ones (take n l) ≤ ones l
unfolding ones
ones-take zero l = omega arith
ones-take (suc n) [] = omega arith
ones-take (suc n) (x ∷ l) = omega (arith, ones-take n l)

module _ (f : ℕ → ℕ) (s w : ℕ) (before : (j : ℕ) → j < s → f j % 2 ≡ 0) (behind : (j : ℕ) → s + w ≤ j → f j % 2 ≡ 0) where
  -- as many as places from s on, and no more than w
  counted : (n : ℕ) → (ones (tabulate n f) ≤ n - s) × (ones (tabulate n f) ≤ w)
  unfolding tabulate ones
  counted zero = (omega arith, omega arith)
  counted (suc n) = go (counted n) (dec_le s n) (dec_le (s + w) n)
    where
      -- one entry more, which is x modulo 2
      with-last : (x : ℕ) → f n % 2 ≡ x → (ones (tabulate n f) + x ≤ suc n - s) × (ones (tabulate n f) + x ≤ w)
          → (ones (tabulate n f ++ (f n ∷ [])) ≤ suc n - s) × (ones (tabulate n f ++ (f n ∷ [])) ≤ w)
      with-last x e h = let sum = ones-append (tabulate n f) (f n ∷ []) in (omega arith, omega arith)

      go : (ones (tabulate n f) ≤ n - s) × (ones (tabulate n f) ≤ w) → Dec (s ≤ n) → Dec (s + w ≤ n)
          → (ones (tabulate n f ++ (f n ∷ [])) ≤ suc n - s) × (ones (tabulate n f ++ (f n ∷ [])) ≤ w)
      go last (no o) d = with-last 0 (before n (omega arith)) (omega arith, omega arith)
      go last (yes i) (yes p) = with-last 0 (behind n p) (omega arith, omega arith)
      go last (yes i) (no o) = with-last (f n % 2) refl (omega arith, omega arith)

  pub ones-window : (n : ℕ) → ones (tabulate n f) ≤ w
  ones-window n = (counted n).1

-- ---- the ones of a number
none-set : Count.ones 0 ≡ 0
unfolding Count.ones Count.ones_in
none-set = refl

pub count-digits : (n x : ℕ) → x < 2 ^ n → Count.ones x ≡ ones (digits 2 n x)
unfolding ones digits
count-digits zero x h = let z : x ≡ 0 = omega arith in rw z none-set
count-digits (suc n) x h =
    Count.ones_step x
    ∙ ap (λ (k : ℕ). x % 2 + k) (count-digits n (x / 2) (shr_lt n 1 (rw (add-one n) h)))
    ∙ rw (ones-append (digits 2 n (x / 2)) (x % 2 ∷ [])) (omega arith)
