-- Laws of digits and the numbers that they make.
--     below-append, below-take, below-drop, below-get_or, below-tab     what a list's parts have of `Below`, and a table
--     length_digits, get_or-digits, below-digits            how many digits, which stands where, each is one
--     digits_append, take-digits, drop-digits             the first ones are those of a quotient, the last ones the number's own
--     digits-zero, digits-cons, digits_low                in base 2: of 0; the highest digit in front; only the low ones count
--     value-append, value-snoc, value-below               two rows of digits, one digit more, the bound
--     value-tab, value-tab-below, value-take              the same of a table and of a list, as a loop adds digit by digit
--     value-digits, digits_value                          the digits of a number make it again, and the other way round
-- Assumes nothing.
use mathlib.Core.Path.{◌≡◌, refl, sym, ap, ap₂, ◌∙◌, subst}
use mathlib.Core.Logic.{⊎_elim}
use mathlib.Core.List.{List, [], ◌∷◌, ◌++◌, append_assoc, append-nil}
use Prim.Native.Nat.{ℕ, zero, suc, ◌+◌, ◌-◌, ◌*◌, ◌/◌, ◌%◌, ◌^◌, ◌<◌}
use native.Mathlib.Nat.{not-suc-le-zero, le_of_suc-le-suc, eq-or-lt_of_le, add-zero, add-suc, zero-add, mul-one, add-mul, mul_assoc, add_assoc, pow-zero, pow-suc, pow-succ', div-one, div-div-eq-div-mul, mod-lt, mod-one, mod-eq_of_lt}
use native.Mathlib.Numerals.{add-one, one-add}
use native.Mathlib.Omega.{arith}
use lib.ListN.{length, get_or, take, drop, replicate, length-append, replicate-append-replicate, get_or-append}
use lib.Seq.{get_or_at, take-suc, take_all, take_at, drop_at, length-take-le}
use lib.Arith.{digits_lt, digits_div, digits_mod, mod-mul}
use lib.Pow.{pow-add, field, mod-mod-pow}
use Rattle.bits.specs.Digits.{value, digits, Below}
use Rattle.bits.specs.Table.{tabulate}
use Rattle.bits.proofs.Table.{length-tab}

module _ (b : ℕ) where
  pub below-append : (xs ys : List ℕ) → Below b xs → Below b ys → Below b (xs ++ ys)
  unfolding Below
  below-append [] ys h k = k
  below-append (x ∷ xs) ys h k = (h.0, below-append xs ys h.1 k)

  pub below-take : (n : ℕ) (ds : List ℕ) → Below b ds → Below b (take n ds)
  unfolding Below
  below-take zero ds h = tt
  below-take (suc n) [] h = tt
  below-take (suc n) (d ∷ ds) h = (h.0, below-take n ds h.1)

  pub below-drop : (n : ℕ) (ds : List ℕ) → Below b ds → Below b (drop n ds)
  unfolding Below
  below-drop zero ds h = h
  below-drop (suc n) [] h = tt
  below-drop (suc n) (d ∷ ds) h = below-drop n ds h.1

  pub below-get_or : (ds : List ℕ) (i : ℕ) → Below b ds → i < length ds → get_or ds i 0 < b
  unfolding Below
  below-get_or [] i h l = absurd (not-suc-le-zero l)
  below-get_or (d ∷ ds) zero h l = h.0
  below-get_or (d ∷ ds) (suc i) h l = below-get_or ds i h.1 (le_of_suc-le-suc l)

  pub below-tab : (n : ℕ) (f : ℕ → ℕ) → ((i : ℕ) → i < n → f i < b) → Below b (tabulate n f)
  unfolding Below tabulate
  below-tab zero f h = tt
  below-tab (suc n) f h = below-append (tabulate n f) (f n ∷ []) (below-tab n f (λ i l. h i (omega arith))) (h n (omega arith), tt)

  -- ---- the digits of a number
  pub length_digits : (n x : ℕ) → length (digits b n x) ≡ n
  unfolding digits
  length_digits zero x = refl
  length_digits (suc n) x = rw (length-append, length_digits n (x / b)) (add-one n)

  pub below-digits : (n x : ℕ) → 0 < b → Below b (digits b n x)
  unfolding digits Below
  below-digits zero x h = tt
  below-digits (suc n) x h = below-append (digits b n (x / b)) (x % b ∷ []) (below-digits n (x / b) h) (mod-lt x h, tt)

  pub get_or-digits : (n x i : ℕ) → i < n → get_or (digits b n x) i 0 ≡ x / b ^ (n - 1 - i) % b
  unfolding digits
  get_or-digits zero x i h = absurd (not-suc-le-zero h)
  get_or-digits (suc n) x i h =
      ⊎_elim
      (λ e.
      let z : suc n - 1 - n ≡ 0 = omega arith in
      rw e (get_or_at (digits b n (x / b)) (x % b) [] 0 n (length_digits n (x / b)) ∙ rw (z, pow-zero, div-one)))
      (λ l.
      let k : suc n - 1 - i ≡ suc (n - 1 - i) = omega arith in
      get_or-append (digits b n (x / b)) (x % b ∷ []) 0 i (subst (λ (m : ℕ). i < m) (sym (length_digits n (x / b))) l)
      ∙ get_or-digits n (x / b) i l
      ∙ rw (k, pow-succ', div-div-eq-div-mul))
      (eq-or-lt_of_le (le_of_suc-le-suc h))

  pub digits_append : (m n x : ℕ) → digits b (m + n) x ≡ digits b m (x / b ^ n) ++ digits b n x
  unfolding digits
  digits_append m zero x = rw (add-zero, pow-zero, div-one) (sym (append-nil (digits b m x)))
  digits_append m (suc n) x = rw (add-suc, digits_append m n (x / b), div-div-eq-div-mul, ← pow-succ', append_assoc)

  pub take-digits : (m n x : ℕ) → take m (digits b (m + n) x) ≡ digits b m (x / b ^ n)
  take-digits m n x = rw digits_append (take_at (digits b m (x / b ^ n)) (digits b n x) m (length_digits m (x / b ^ n)))

  pub drop-digits : (m n x : ℕ) → drop m (digits b (m + n) x) ≡ digits b n x
  drop-digits m n x = rw digits_append (drop_at (digits b m (x / b ^ n)) (digits b n x) m (length_digits m (x / b ^ n)))

  -- ---- the number that digits make
  pub value-append : (xs ys : List ℕ) → value b (xs ++ ys) ≡ value b xs * b ^ length ys + value b ys
  unfolding value
  value-append [] ys = omega arith
  value-append (x ∷ xs) ys =
      let split : x * b ^ length (xs ++ ys) ≡ x * b ^ length xs * b ^ length ys = rw (length-append xs ys, pow-add) (sym (mul_assoc x (b ^ length xs) (b ^ length ys))) in
      rw (value-append xs ys, split, add-mul (x * b ^ length xs) (value b xs) (b ^ length ys)) (sym (add_assoc _ _ _))

  pub value-snoc : (ds : List ℕ) (d : ℕ) → value b (ds ++ (d ∷ [])) ≡ value b ds * b + d
  unfolding value
  value-snoc ds d =
      let p : b ^ 1 ≡ b = pow-suc b 0 ∙ rw pow-zero (omega arith) in
      let q : b ^ 0 ≡ 1 = pow-zero b in
      rw (value-append ds (d ∷ []), p, q) (omega arith)

  pub value-below : (ds : List ℕ) → Below b ds → value b ds < b ^ length ds
  unfolding value Below
  value-below [] h = rw pow-zero (omega arith)
  value-below (d ∷ ds) h = rw pow-succ' (digits_lt h.0 (value-below ds h.1))

  pub value-tab : (n : ℕ) (f : ℕ → ℕ) → value b (tabulate (n + 1) f) ≡ value b (tabulate n f) * b + f n
  unfolding tabulate
  value-tab n f = rw add-one (value-snoc (tabulate n f) (f n))

  pub value-tab-below : (n : ℕ) (f : ℕ → ℕ) → ((i : ℕ) → i < n → f i < b) → value b (tabulate n f) < b ^ n
  value-tab-below n f h = rw (length-tab n f) at (value-below (tabulate n f) (below-tab n f h))

  pub value-take : (ds : List ℕ) (k : ℕ) → k < length ds → value b (take (k + 1) ds) ≡ value b (take k ds) * b + get_or ds k 0
  value-take ds k h = rw (add-one, take-suc ds k 0 h) (value-snoc (take k ds) (get_or ds k 0))

  pub value-digits : (n x : ℕ) → 0 < b → value b (digits b n x) ≡ x % b ^ n
  unfolding value digits
  value-digits zero x h = rw (pow-zero, mod-one)
  value-digits (suc n) x h =
      rw (value-snoc (digits b n (x / b)) (x % b), value-digits n (x / b) h, pow-suc) (sym (mod-mul x (native.Mathlib.Nat.one-le-pow n b h) h))

  pub digits_value : (n : ℕ) (ds : List ℕ) → Below b ds → length ds ≡ n → digits b n (value b ds) ≡ ds
  unfolding digits
  digits_value zero [] h e = refl
  digits_value zero (d ∷ ds) h e = absurd (native.Mathlib.Nat.suc-ne-zero _ e)
  digits_value (suc n) ds h e =
      let l : n < length ds = omega arith in
      let m : length (take n ds) ≡ n = length-take-le n ds (omega arith) in
      let last : get_or ds n 0 < b = below-get_or ds n h l in
      let whole : ds ≡ take n ds ++ (get_or ds n 0 ∷ []) = sym (take_all (suc n) ds (omega arith)) ∙ take-suc ds n 0 l in
      let made : value b ds ≡ value b (take n ds) * b + get_or ds n 0 = ap (value b) whole ∙ value-snoc (take n ds) (get_or ds n 0) in
      ap₂ (λ (p : List ℕ) (x : ℕ). p ++ (x ∷ []))
      (ap (digits b n) (ap (λ (v : ℕ). v / b) made ∙ digits_div (value b (take n ds)) last) ∙ digits_value n (take n ds) (below-take n ds h) m)
      (ap (λ (v : ℕ). v % b) made ∙ digits_mod (value b (take n ds)) last)
      ∙ sym whole

-- ---- binary digits
pub digits-zero : (n : ℕ) → digits 2 n 0 ≡ replicate n 0
unfolding digits
digits-zero zero = refl
digits-zero (suc n) =
    ap (λ (l : List ℕ). l ++ (0 ∷ [])) (digits-zero n) ∙ replicate-append-replicate n 1 0 ∙ ap (λ (k : ℕ). replicate k 0) (add-one n)

pub digits-cons : (n x : ℕ) → digits 2 (suc n) x ≡ x / 2 ^ n % 2 ∷ digits 2 n x
unfolding digits
digits-cons n x = ap (λ (k : ℕ). digits 2 k x) (sym (one-add n)) ∙ digits_append 2 1 n x

pub digits_low : (n x : ℕ) → digits 2 n (x % 2 ^ n) ≡ digits 2 n x
unfolding digits
digits_low zero x = refl
digits_low (suc n) x =
    ap₂ (λ (h l : ℕ). digits 2 n h ++ (l ∷ []))
    (ap (λ (k : ℕ). x % 2 ^ k / 2) (sym (add-one n)) ∙ field x n 1)
    (ap (λ (k : ℕ). x % 2 ^ k % 2) (sym (add-one n)) ∙ mod-mod-pow x n 1)
    ∙ ap (λ (l : List ℕ). l ++ (x % 2 ∷ [])) (digits_low n (x / 2))
