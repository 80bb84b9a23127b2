-- Laws of tables, and of a list that is filled from its front.
--     length-tab, get_or-tab      how long a table is, and what stands in it
--     tab-ext, tab-add          two rules that agree make one table; a table in two parts
--     tab-get_or                  a list is the table of its elements
--     tab-more, tab-done        a loop over an array: a store of f i at i makes its first i + 1 elements the table's; all of them are
--     toward, arrived           the same toward a list that is known
--     filled f n xs             f below n, and xs from there on
--     filled-set, filled-part   one store; a part that was lent and came back
--     filled_zero, filled-all   before the first store; after the last
--     length-snoc               one element more at the end
--     get_or-within               within a list the default does not matter
--     get_d_front, get_or-back     what stands in two lists, one behind the other, the first of a known length
-- Assumes nothing.
use mathlib.Core.Path.{◌≡◌, refl, sym, ap, ap₂, ◌∙◌, subst}
use mathlib.Core.Logic.{⊎_elim}
use mathlib.Core.List.{List, [], ◌∷◌, ◌++◌, append_assoc, append-nil}
use Prim.Native.Nat.{ℕ, zero, suc, ◌+◌, ◌-◌, ◌<◌, ◌≤◌}
use native.Mathlib.Nat.{not-suc-le-zero, le_of_suc-le-suc, eq-or-lt_of_le, add-zero, add-suc}
use native.Mathlib.Numerals.{add-one}
use native.Mathlib.Omega.{arith}
use lib.ListN.{length, get_or, take, drop, set, length-append, length-drop, drop_of_length-le, get_or-append}
use lib.Seq.{get_or-append-add, take-suc-set, take-suc, take_all, get_or_at, ext_get_or, drop-cons, drop-drop, take_at, drop_at, set_at, append_snoc}
use Rattle.bits.specs.Table.{tabulate}

module _ {A : Type 0} where
  pub length-tab : (n : ℕ) (f : ℕ → A) → length (tabulate n f) ≡ n
  unfolding tabulate
  length-tab zero f = refl
  length-tab (suc n) f = rw (length-append, length-tab n f) (add-one n)

  pub get_or-tab : (n : ℕ) (f : ℕ → A) (i : ℕ) (d : A) → i < n → get_or (tabulate n f) i d ≡ f i
  unfolding tabulate
  get_or-tab zero f i d h = absurd (not-suc-le-zero h)
  get_or-tab (suc n) f i d h =
      ⊎_elim
      (λ e. rw e (get_or_at (tabulate n f) (f n) [] d n (length-tab n f)))
      (λ l. get_or-append (tabulate n f) (f n ∷ []) d i (subst (λ (k : ℕ). i < k) (sym (length-tab n f)) l) ∙ get_or-tab n f i d l)
      (eq-or-lt_of_le (le_of_suc-le-suc h))

  pub tab-ext : (n : ℕ) (f g : ℕ → A) → ((i : ℕ) → i < n → f i ≡ g i) → tabulate n f ≡ tabulate n g
  unfolding tabulate
  tab-ext zero f g e = refl
  tab-ext (suc n) f g e = rw (tab-ext n f g (λ i l. e i (omega arith)), e n (omega arith))

  pub tab-add : (m n : ℕ) (f : ℕ → A) → tabulate (m + n) f ≡ tabulate m f ++ tabulate n (λ (k : ℕ). f (m + k))
  unfolding tabulate
  tab-add m zero f = rw add-zero (sym (append-nil (tabulate m f)))
  tab-add m (suc n) f = rw (add-suc, tab-add m n f, append_assoc)

  pub tab-get_or : (n : ℕ) (l : List A) (d : A) → length l ≡ n → l ≡ tabulate n (λ i. get_or l i d)
  tab-get_or n l d e =
      ext_get_or d l (tabulate n (λ i. get_or l i d)) (e ∙ sym (length-tab n (λ i. get_or l i d)))
      (λ i h. sym (get_or-tab n (λ i. get_or l i d) i d (subst (λ (k : ℕ). i < k) e h)))

  pub tab-made : (n : ℕ) (f : ℕ → A) (l : List A) (d : A) → length l ≡ n → ((i : ℕ) → i < n → get_or l i d ≡ f i) → l ≡ tabulate n f
  tab-made n f l d e each = tab-get_or n l d e ∙ tab-ext n (λ i. get_or l i d) f each

  -- ---- a loop that fills an array
  pub tab-more : (f : ℕ → A) (l : List A) (i : ℕ) (v : A) → i < length l → take i l ≡ tabulate i f → v ≡ f i → take (i + 1) (set l i v) ≡ tabulate (i + 1) f
  unfolding tabulate
  tab-more f l i v h e q = rw (add-one, take-suc-set, e, q)

  pub tab-none : (f : ℕ → A) (l : List A) → take 0 l ≡ tabulate 0 f
  unfolding tabulate
  tab-none f l = refl

  pub tab-done : (f : ℕ → A) (l : List A) (n i : ℕ) → length l ≡ n → n ≤ i → i ≤ n → take i l ≡ tabulate i f → l ≡ tabulate n f
  tab-done f l n i h p q e =
      let same : i ≡ n = omega arith in
      let all : length l ≤ n = omega arith in
      sym (take_all n l all) ∙ rw same at e

  pub toward : (t l : List A) (i : ℕ) (v d : A) → i < length l → i < length t → take i l ≡ take i t → v ≡ get_or t i d → take (i + 1) (set l i v) ≡ take (i + 1) t
  toward t l i v d h k e q = rw add-one (take-suc-set l i v h ∙ ap₂ (λ (p : List A) (x : A). p ++ (x ∷ [])) e q ∙ sym (take-suc t i d k))

  pub arrived : (t l : List A) (i : ℕ) → length l ≤ i → length t ≤ i → take i l ≡ take i t → l ≡ t
  arrived t l i h k e = sym (take_all i l h) ∙ e ∙ take_all i t k

  -- ---- a loop that fills a lent list
  abbrev pub filled : (ℕ → A) → ℕ → List A → List A
  filled f n xs = tabulate n f ++ drop n xs

  pub filled_zero : (f : ℕ → A) (xs : List A) → xs ≡ filled f 0 xs
  unfolding tabulate
  filled_zero f xs = refl

  pub length-filled : (f : ℕ → A) (n : ℕ) (xs : List A) → n ≤ length xs → length (filled f n xs) ≡ length xs
  length-filled f n xs h = rw (length-append, length-tab, length-drop) (omega arith)

  pub filled-set : (f : ℕ → A) (i : ℕ) (xs : List A) → i < length xs → set (filled f i xs) i (f i) ≡ filled f (suc i) xs
  unfolding tabulate
  filled-set f i xs h =
      rw (drop-cons xs i (f i) h, set_at (tabulate i f) (get_or xs i (f i)) (drop (suc i) xs) (f i) i (length-tab i f))
      (sym (append_snoc (tabulate i f) (f i) (drop (suc i) xs)))

  pub filled-all : (f : ℕ → A) (n : ℕ) (xs : List A) → length xs ≡ n → filled f n xs ≡ tabulate n f
  filled-all f n xs h = let le : length xs ≤ n = omega arith in rw (drop_of_length-le xs le) (append-nil (tabulate n f))

  pub filled-part : (f : ℕ → A) (a k : ℕ) (xs ys : List A) → a + k ≤ length xs → ys ≡ tabulate k (λ (j : ℕ). f (a + j))
      → take a (filled f a xs) ++ (ys ++ drop k (drop a (filled f a xs))) ≡ filled f (a + k) xs
  filled-part f a k xs ys h e =
      rw (take_at (tabulate a f) (drop a xs) a (length-tab a f), drop_at (tabulate a f) (drop a xs) a (length-tab a f), e, drop-drop, tab-add, append_assoc)

-- ---- what stands where
module _ {A : Type 0} where
  pub length-snoc : (p : List A) (b : A) → length (p ++ (b ∷ [])) ≡ suc (length p)
  length-snoc [] b = refl
  length-snoc (x ∷ p) b = ap suc (length-snoc p b)

  pub get_d_front : (xs ys : List A) (n k : ℕ) (d : A) → length xs ≡ n → k < n → get_or (xs ++ ys) k d ≡ get_or xs k d
  get_d_front xs ys n k d e h = get_or-append xs ys d k (subst (λ (m : ℕ). k < m) (sym e) h)

  pub get_or-back : (xs ys : List A) (n k : ℕ) (d : A) → length xs ≡ n → n ≤ k → get_or (xs ++ ys) k d ≡ get_or ys (k - n) d
  get_or-back xs ys n k d e h =
      let at : k ≡ length xs + (k - n) = omega arith in
      ap (λ (m : ℕ). get_or (xs ++ ys) m d) at ∙ get_or-append-add xs ys (k - n) d

  pub get_or-within : (l : List A) (k : ℕ) (d e : A) → k < length l → get_or l k d ≡ get_or l k e
  get_or-within [] k d e h = absurd (not-suc-le-zero h)
  get_or-within (x ∷ l) zero d e h = refl
  get_or-within (x ∷ l) (suc k) d e h = get_or-within l k d e (le_of_suc-le-suc h)
