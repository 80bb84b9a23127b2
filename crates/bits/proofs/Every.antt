-- Laws of a test over a whole list.
--     every_take                   one element more
--     every-each, each-every       it passes exactly where it passes at each element
--     every-all, all-every         the same, said of a list and not of its places
--     every-fails                  one element at which it fails
--     Missed, every-missed         where it does not pass, there is one
--     every-tab                    a table, each of whose entries passes
--     all-every-is                 std's word for it is this one
--     every-at                     a table's rule: one test that is computed over the whole table says it of each entry
-- Assumes nothing.
use mathlib.Core.Path.{◌≡◌, refl, sym, ap, ◌∙◌}
use mathlib.Core.Bool.{Bool, true, false, true≢false, ◌&&◌, and-true, and_assoc}
use mathlib.Core.List.{List, [], ◌∷◌, ◌++◌}
use Prim.Native.Nat.{ℕ, zero, suc, ◌+◌, ◌<◌, suc-le-suc}
use native.Mathlib.Nat.{not-suc-le-zero, le_of_suc-le-suc}
use native.Mathlib.Numerals.{add-one}
use native.Mathlib.Omega.{arith}
use lib.ListN.{length, get_or, take}
use lib.Seq.{take-suc}
use lib.Dec.{T}
use Rattle.std.specs.List.{list_all}
use Rattle.bits.specs.Table.{tabulate, every, All}
use Rattle.bits.proofs.Tests.{either_way, both_true}

head : (a b : Bool) → T (a && b) → T a
head true b t = tt
head false b t = t

tail : (a b : Bool) → T (a && b) → T b
tail true b t = t
tail false b t = absurd t

module _ {A : Type 0} (f : A → Bool) where
  pub all-every-is : (xs : List A) → list_all f xs ≡ every f xs
  unfolding every
  all-every-is [] = refl
  all-every-is (x ∷ xs) = ap (λ (b : Bool). f x && b) (all-every-is xs)

  every-snoc : (xs : List A) (x : A) → every f (xs ++ (x ∷ [])) ≡ (every f xs && f x)
  unfolding every
  every-snoc [] x = and-true (f x)
  every-snoc (y ∷ xs) x = rw (every-snoc xs x) (sym (and_assoc (f y) (every f xs) (f x)))

  pub every_take : (xs : List A) (i : ℕ) (d : A) → i < length xs → every f (take (i + 1) xs) ≡ (every f (take i xs) && f (get_or xs i d))
  every_take xs i d l = rw (add-one, take-suc xs i d l) (every-snoc (take i xs) (get_or xs i d))

  pub every-each : (xs : List A) (i : ℕ) (d : A) → every f xs ≡ true → i < length xs → f (get_or xs i d) ≡ true
  unfolding every
  every-each [] i d t l = absurd (not-suc-le-zero l)
  every-each (x ∷ xs) zero d t l = (both_true (f x) (every f xs) t).0
  every-each (x ∷ xs) (suc i) d t l = every-each xs i d (both_true (f x) (every f xs) t).1 (le_of_suc-le-suc l)

  pub each-every : (xs : List A) (d : A) → ((i : ℕ) → i < length xs → f (get_or xs i d) ≡ true) → every f xs ≡ true
  unfolding every
  each-every [] d h = refl
  each-every (x ∷ xs) d h = rw (h 0 (omega arith)) (each-every xs d (λ i l. h (suc i) (suc-le-suc l)))

  pub every-all : (P : A → Type 0) → ((x : A) → f x ≡ true → P x) → (xs : List A) → every f xs ≡ true → All P xs
  unfolding every All
  every-all P h [] t = tt
  every-all P h (x ∷ xs) t = let both = both_true (f x) (every f xs) t in (h x both.0, every-all P h xs both.1)

  pub all-every : (P : A → Type 0) → ((x : A) → P x → f x ≡ true) → (xs : List A) → All P xs → every f xs ≡ true
  unfolding every All
  all-every P h [] t = refl
  all-every P h (x ∷ xs) t = rw (h x t.0) (all-every P h xs t.1)

  pub every-fails : (xs : List A) (i : ℕ) (d : A) → i < length xs → f (get_or xs i d) ≡ false → every f xs ≡ false
  every-fails xs i d l t = either_way (every f xs) (λ u. absurd (true≢false (sym (every-each xs i d u l) ∙ t))) (λ u. u)

  pub record Missed (xs : List A) (d : A) : Type 0 where
    pub place : ℕ
    pub there : place < length xs
    pub fails : f (get_or xs place d) ≡ false

  pub every-missed : (xs : List A) (d : A) → every f xs ≡ false → Missed xs d
  unfolding every
  every-missed [] d e = absurd (true≢false e)
  every-missed (x ∷ xs) d e =
      either_way (f x)
      (λ t. let m = every-missed xs d (rw t at e) in record { place = suc m.place; there = suc-le-suc m.there; fails = m.fails })
      (λ t. record { place = 0; there = omega arith; fails = t })

  pub every-tab : (n : ℕ) (g : ℕ → A) → ((i : ℕ) → i < n → f (g i) ≡ true) → every f (tabulate n g) ≡ true
  unfolding tabulate every
  every-tab zero g h = refl
  every-tab (suc n) g h = rw (every-snoc (tabulate n g) (g n), every-tab n g (λ i l. h i (omega arith)), h n (omega arith))

  pub every-at : (xs : List A) (k : ℕ) (d : A) → T (every f xs) → k < length xs → T (f (get_or xs k d))
  unfolding every
  every-at [] k d t h = absurd (not-suc-le-zero h)
  every-at (x ∷ xs) zero d t h = head (f x) (every f xs) t
  every-at (x ∷ xs) (suc k) d t h = every-at xs k d (tail (f x) (every f xs) t) (le_of_suc-le-suc h)
