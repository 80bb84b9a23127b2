-- Laws of sums of polynomials.
--     length-⊕, below-⊕             how long a sum is; each coefficient is 0 or 1
--     ⊕-comm, ⊕-assoc, ⊕-swap       the order and the grouping of a sum
--     ⊕-zeros, zeros-⊕, ⊕-self      zero; a polynomial and itself
--     ⊕-cancel                      two whose sum is zero are equal
--     ⊕-append                      the sum in two parts
--     ⊕-tab, get_or-⊕, take-⊕         the sum of two tables; a sum entry by entry; its first entries
--     length-zeros, below-zeros, zeros-snoc
--     length-times, times_zero, times-one, ⊕-times
--                                   a coefficient times a polynomial, and how sums go with it
-- Assumes nothing.
use mathlib.Core.Path.{◌≡◌, refl, sym, ap, ap₂, ◌∙◌}
use mathlib.Core.List.{List, [], ◌∷◌, ◌++◌}
use Prim.Native.Nat.{ℕ, zero, suc, ◌+◌, ◌*◌, ◌/◌, ◌%◌, ◌<◌}
use native.Mathlib.Nat.{suc_inj, suc-ne-zero, zero-mul, one-mul, mul_assoc, add-mul, mod-add-div, add-mul-mod_self_left, mod-add-mod, add-mod-mod, add-mod}
use native.Mathlib.Omega.{arith}
use lib.ListN.{length, length-replicate, get_or, take}
use Rattle.bits.specs.Table.{tabulate}
use Rattle.bits.specs.Digits.{Below}
use Rattle.bits.proofs.Table.{length-tab}
use Rattle.remainder.specs.Polynomial.{◌⊕◌, zeros, times}

pub cons : {x y : ℕ} {p q : List ℕ} → x ≡ y → p ≡ q → ◌≡◌ {A = List ℕ} (x ∷ p) (y ∷ q)
cons e h = ap₂ (λ (x : ℕ) (p : List ℕ). x ∷ p) e h

-- ---- sums
pub length-⊕ : (p q : List ℕ) → length p ≡ length q → length (p ⊕ q) ≡ length p
unfolding ◌⊕◌
length-⊕ [] q h = refl
length-⊕ (x ∷ p) [] h = absurd (suc-ne-zero _ h)
length-⊕ (x ∷ p) (y ∷ q) h = ap suc (length-⊕ p q (suc_inj h))

pub below-⊕ : (p q : List ℕ) → Below 2 (p ⊕ q)
unfolding ◌⊕◌ Below
below-⊕ [] q = tt
below-⊕ (x ∷ p) [] = tt
below-⊕ (x ∷ p) (y ∷ q) = (omega arith, below-⊕ p q)

pub ⊕-comm : (p q : List ℕ) → p ⊕ q ≡ q ⊕ p
unfolding ◌⊕◌
⊕-comm [] [] = refl
⊕-comm [] (y ∷ q) = refl
⊕-comm (x ∷ p) [] = refl
⊕-comm (x ∷ p) (y ∷ q) = cons (omega arith) (⊕-comm p q)

pub ⊕-assoc : (p q s : List ℕ) → (p ⊕ q) ⊕ s ≡ p ⊕ (q ⊕ s)
unfolding ◌⊕◌
⊕-assoc [] q s = refl
⊕-assoc (x ∷ p) [] s = refl
⊕-assoc (x ∷ p) (y ∷ q) [] = refl
⊕-assoc (x ∷ p) (y ∷ q) (z ∷ s) = cons (omega arith) (⊕-assoc p q s)

pub ⊕-swap : (p q s t : List ℕ) → (p ⊕ q) ⊕ (s ⊕ t) ≡ (p ⊕ s) ⊕ (q ⊕ t)
⊕-swap p q s t =
    ⊕-assoc p q (s ⊕ t)
    ∙ ap (λ (l : List ℕ). p ⊕ l) (sym (⊕-assoc q s t) ∙ ap (λ (l : List ℕ). l ⊕ t) (⊕-comm q s) ∙ ⊕-assoc s q t)
    ∙ sym (⊕-assoc p s (q ⊕ t))

pub ⊕-append : (a b c d : List ℕ) → length a ≡ length b → (a ++ c) ⊕ (b ++ d) ≡ (a ⊕ b) ++ (c ⊕ d)
unfolding ◌⊕◌
⊕-append [] [] c d h = refl
⊕-append [] (y ∷ b) c d h = absurd (suc-ne-zero _ (sym h))
⊕-append (x ∷ a) [] c d h = absurd (suc-ne-zero _ h)
⊕-append (x ∷ a) (y ∷ b) c d h = cons refl (⊕-append a b c d (suc_inj h))

-- ---- entry by entry
pub ⊕-tab : (n : ℕ) (f g : ℕ → ℕ) → tabulate n f ⊕ tabulate n g ≡ tabulate n (λ k. (f k + g k) % 2)
unfolding tabulate ◌⊕◌
⊕-tab zero f g = refl
⊕-tab (suc n) f g =
    ⊕-append (tabulate n f) (tabulate n g) (f n ∷ []) (g n ∷ []) (length-tab n f ∙ sym (length-tab n g))
    ∙ ap (λ (l : List ℕ). l ++ ((f n + g n) % 2 ∷ [])) (⊕-tab n f g)

pub get_or-⊕ : (p q : List ℕ) (k : ℕ) → length p ≡ length q → get_or (p ⊕ q) k 0 ≡ (get_or p k 0 + get_or q k 0) % 2
unfolding ◌⊕◌
get_or-⊕ [] [] k h = refl
get_or-⊕ [] (y ∷ q) k h = absurd (suc-ne-zero _ (sym h))
get_or-⊕ (x ∷ p) [] k h = absurd (suc-ne-zero _ h)
get_or-⊕ (x ∷ p) (y ∷ q) zero h = refl
get_or-⊕ (x ∷ p) (y ∷ q) (suc k) h = get_or-⊕ p q k (suc_inj h)

pub take-⊕ : (n : ℕ) (p q : List ℕ) → take n (p ⊕ q) ≡ take n p ⊕ take n q
unfolding ◌⊕◌
take-⊕ zero p q = refl
take-⊕ (suc n) [] q = refl
take-⊕ (suc n) (x ∷ p) [] = refl
take-⊕ (suc n) (x ∷ p) (y ∷ q) = cons refl (take-⊕ n p q)

-- ---- zero
pub length-zeros : (n : ℕ) → length (zeros n) ≡ n
length-zeros n = length-replicate n 0

pub below-zeros : (n : ℕ) → Below 2 (zeros n)
unfolding Below
below-zeros zero = tt
below-zeros (suc n) = (omega arith, below-zeros n)

pub zeros-snoc : (n : ℕ) → zeros n ++ (0 ∷ []) ≡ zeros (suc n)
zeros-snoc zero = refl
zeros-snoc (suc n) = cons refl (zeros-snoc n)

pub ⊕-self : (p : List ℕ) → p ⊕ p ≡ zeros (length p)
unfolding ◌⊕◌
⊕-self [] = refl
⊕-self (x ∷ p) = cons (omega arith) (⊕-self p)

pub ⊕-zeros : (p : List ℕ) (n : ℕ) → Below 2 p → length p ≡ n → p ⊕ zeros n ≡ p
unfolding ◌⊕◌ Below
⊕-zeros [] n b h = refl
⊕-zeros (x ∷ p) zero b h = absurd (suc-ne-zero _ h)
⊕-zeros (x ∷ p) (suc n) b h = let l : x < 2 = b.0 in cons (omega arith) (⊕-zeros p n b.1 (suc_inj h))

pub zeros-⊕ : (p : List ℕ) (n : ℕ) → Below 2 p → length p ≡ n → zeros n ⊕ p ≡ p
zeros-⊕ p n b h = ⊕-comm (zeros n) p ∙ ⊕-zeros p n b h

pub ⊕-cancel : (p q : List ℕ) (n : ℕ) → Below 2 p → Below 2 q → length p ≡ n → length q ≡ n → p ⊕ q ≡ zeros n → p ≡ q
⊕-cancel p q n bp bq hp hq e =
    sym (⊕-zeros p n bp hp) ∙ ap (λ (l : List ℕ). p ⊕ l) (sym e) ∙ sym (⊕-assoc p p q)
    ∙ ap (λ (l : List ℕ). l ⊕ q) (⊕-self p ∙ ap zeros hp) ∙ zeros-⊕ q n bq hq

-- ---- a coefficient times a polynomial
pub length-times : (x : ℕ) (p : List ℕ) → length (times x p) ≡ length p
unfolding times
length-times x [] = refl
length-times x (y ∷ p) = ap suc (length-times x p)

pub times_zero : (p : List ℕ) → times 0 p ≡ zeros (length p)
unfolding times
times_zero [] = refl
times_zero (y ∷ p) = cons (zero-mul y) (times_zero p)

pub times-one : (p : List ℕ) → times 1 p ≡ p
unfolding times
times-one [] = refl
times-one (y ∷ p) = cons (one-mul y) (times-one p)

odd-times : (n y : ℕ) → n % 2 * y % 2 ≡ n * y % 2
odd-times n y =
    sym
    (ap (λ (k : ℕ). k * y % 2) (sym (mod-add-div n 2))
    ∙ ap (λ (k : ℕ). k % 2) (add-mul (n % 2) (2 * (n / 2)) y ∙ ap (λ (k : ℕ). n % 2 * y + k) (mul_assoc 2 (n / 2) y))
    ∙ add-mul-mod_self_left (n % 2 * y) 2 (n / 2 * y))

four : (a b x y z : ℕ) → z % 2 ≡ (x + y) % 2 → ((a + b) % 2 + z) % 2 ≡ ((a + x) % 2 + (b + y) % 2) % 2
four a b x y z h =
    mod-add-mod (a + b) 2 z ∙ sym (add-mod-mod (a + b) z 2) ∙ ap (λ (k : ℕ). (a + b + k) % 2) h ∙ add-mod-mod (a + b) (x + y) 2
    ∙ ap (λ (k : ℕ). k % 2) (omega arith) ∙ add-mod (a + x) (b + y) 2

-- two sums, each with a multiple of g, together hold the sum of the multiples
pub ⊕-times : (x y : ℕ) (p q g : List ℕ) → (p ⊕ q) ⊕ times ((x + y) % 2) g ≡ (p ⊕ times x g) ⊕ (q ⊕ times y g)
unfolding ◌⊕◌ times
⊕-times x y [] q g = refl
⊕-times x y (a ∷ p) [] [] = refl
⊕-times x y (a ∷ p) [] (c ∷ g) = refl
⊕-times x y (a ∷ p) (b ∷ q) [] = refl
⊕-times x y (a ∷ p) (b ∷ q) (c ∷ g) =
    cons (four a b (x * c) (y * c) ((x + y) % 2 * c) (odd-times (x + y) c ∙ ap (λ (k : ℕ). k % 2) (add-mul x y c))) (⊕-times x y p q g)
