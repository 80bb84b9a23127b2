-- Masks with at most three ones, as the places of these.
--     at n i, pair n i j, triple n i j k    the masks of n places with a one at i; at i and j; at i, j and k
--     length_at, below_at, ones-at, and the same of pairs and triples
--     sum_at-at, sum_at-pair      what they add to a sum
--     sum_at-triple              the same of a triple: what its first place adds, and then the pair of the other two
--     places-at, places-pair, places-triple     which places they have
--     Few n m                   m is one of these, or has no one
--     few                       so is every mask with at most three ones
-- Assumes nothing.
use mathlib.Core.Path.{◌≡◌, refl, sym, ap, ◌∙◌}
use mathlib.Core.List.{List, [], ◌∷◌}
use Prim.Native.Nat.{ℕ, zero, suc, ◌+◌, ◌≤◌, ◌<◌}
use native.Mathlib.Nat.{suc_inj, suc-ne-zero, not-suc-le-zero, le_of_suc-le-suc, add-zero}
use native.Mathlib.Omega.{arith}
use lib.ListN.{length, get_or, set, length-set}
use Rattle.bits.specs.Bits.{ones}
use Rattle.bits.specs.Digits.{Below}
use Rattle.remainder.specs.Polynomial.{◌⊕◌, zeros}
use Rattle.remainder.proofs.Sum.{cons, length-zeros, below-zeros}
use Rattle.remainder.proofs.Ones.{ones-zeros}
use Rattle.remainder.proofs.Columns.{sum_at, sum_at-none}
use Rattle.reading.specs.Wrong.{places_from}

abbrev pub at : ℕ → ℕ → List ℕ
at n i = set (zeros n) i 1

abbrev pub pair : ℕ → ℕ → ℕ → List ℕ
pair n i j = set (at n i) j 1

abbrev pub triple : ℕ → ℕ → ℕ → ℕ → List ℕ
triple n i j k = set (pair n i j) k 1

pub length_at : (n i : ℕ) → length (at n i) ≡ n
length_at n i = length-set (zeros n) i 1 ∙ length-zeros n

pub length-pair : (n i j : ℕ) → length (pair n i j) ≡ n
length-pair n i j = length-set (at n i) j 1 ∙ length_at n i

pub length-triple : (n i j k : ℕ) → length (triple n i j k) ≡ n
length-triple n i j k = length-set (pair n i j) k 1 ∙ length-pair n i j

below_set : (m : List ℕ) (i : ℕ) → Below 2 m → Below 2 (set m i 1)
unfolding Below
below_set [] i b = tt
below_set (x ∷ m) zero b = (omega arith, b.1)
below_set (x ∷ m) (suc i) b = (b.0, below_set m i b.1)

pub below_at : (n i : ℕ) → Below 2 (at n i)
below_at n i = below_set (zeros n) i (below-zeros n)

pub below-pair : (n i j : ℕ) → Below 2 (pair n i j)
below-pair n i j = below_set (at n i) j (below_at n i)

pub below-triple : (n i j k : ℕ) → Below 2 (triple n i j k)
below-triple n i j k = below_set (pair n i j) k (below-pair n i j)

pub ones-at : (n i : ℕ) → i < n → ones (at n i) ≡ 1
unfolding ones
ones-at zero i l = absurd (not-suc-le-zero l)
ones-at (suc n) zero l = omega (arith, ones-zeros n)
ones-at (suc n) (suc i) l = omega (arith, ones-at n i (le_of_suc-le-suc l))

pub ones-pair : (n i j : ℕ) → i < j → j < n → ones (pair n i j) ≡ 2
unfolding ones
ones-pair zero i j h l = absurd (not-suc-le-zero l)
ones-pair (suc n) i zero h l = absurd (not-suc-le-zero h)
ones-pair (suc n) zero (suc j) h l = omega (arith, ones-at n j (le_of_suc-le-suc l))
ones-pair (suc n) (suc i) (suc j) h l = omega (arith, ones-pair n i j (le_of_suc-le-suc h) (le_of_suc-le-suc l))

pub ones-triple : (n i j k : ℕ) → i < j → j < k → k < n → ones (triple n i j k) ≡ 3
unfolding ones
ones-triple zero i j k g h l = absurd (not-suc-le-zero l)
ones-triple (suc n) i zero k g h l = absurd (not-suc-le-zero g)
ones-triple (suc n) i (suc j) zero g h l = absurd (not-suc-le-zero h)
ones-triple (suc n) zero (suc j) (suc k) g h l = omega (arith, ones-pair n j k (le_of_suc-le-suc h) (le_of_suc-le-suc l))
ones-triple (suc n) (suc i) (suc j) (suc k) g h l =
    omega (arith, ones-triple n i j k (le_of_suc-le-suc g) (le_of_suc-le-suc h) (le_of_suc-le-suc l))

-- ---- what they add
pub sum_at-zeros : (n : ℕ) (cs : List (List ℕ)) (s : List ℕ) → sum_at cs (zeros n) s ≡ s
sum_at-zeros n cs s = sum_at-none cs (zeros n) s (below-zeros n) (omega (arith, ones-zeros n))

pub sum_at-at : (cs : List (List ℕ)) (n i : ℕ) (s : List ℕ) → length cs ≡ n → i < n → sum_at cs (at n i) s ≡ s ⊕ get_or cs i []
unfolding sum_at
sum_at-at [] zero i s h l = absurd (not-suc-le-zero l)
sum_at-at [] (suc n) i s h l = absurd (suc-ne-zero _ (sym h))
sum_at-at (c ∷ cs) zero i s h l = absurd (not-suc-le-zero l)
sum_at-at (c ∷ cs) (suc n) zero s h l = sum_at-zeros n cs (s ⊕ c)
sum_at-at (c ∷ cs) (suc n) (suc i) s h l = sum_at-at cs n i s (suc_inj h) (le_of_suc-le-suc l)

pub sum_at-pair : (cs : List (List ℕ)) (n i j : ℕ) (s : List ℕ) → length cs ≡ n → i < j → j < n → sum_at cs (pair n i j) s ≡ (s ⊕ get_or cs i []) ⊕ get_or cs j []
unfolding sum_at
sum_at-pair [] zero i j s h k l = absurd (not-suc-le-zero l)
sum_at-pair [] (suc n) i j s h k l = absurd (suc-ne-zero _ (sym h))
sum_at-pair (c ∷ cs) zero i j s h k l = absurd (not-suc-le-zero l)
sum_at-pair (c ∷ cs) (suc n) i zero s h k l = absurd (not-suc-le-zero k)
sum_at-pair (c ∷ cs) (suc n) zero (suc j) s h k l = sum_at-at cs n j (s ⊕ c) (suc_inj h) (le_of_suc-le-suc l)
sum_at-pair (c ∷ cs) (suc n) (suc i) (suc j) s h k l = sum_at-pair cs n i j s (suc_inj h) (le_of_suc-le-suc k) (le_of_suc-le-suc l)

pub sum_at-triple : (cs : List (List ℕ)) (n i j k : ℕ) (s : List ℕ) → length cs ≡ n → i < j → j < k → k < n
    → sum_at cs (triple n i j k) s ≡ sum_at cs (pair n j k) (s ⊕ get_or cs i [])
unfolding sum_at
sum_at-triple [] zero i j k s e g h l = absurd (not-suc-le-zero l)
sum_at-triple [] (suc n) i j k s e g h l = absurd (suc-ne-zero _ (sym e))
sum_at-triple (c ∷ cs) zero i j k s e g h l = absurd (not-suc-le-zero l)
sum_at-triple (c ∷ cs) (suc n) i zero k s e g h l = absurd (not-suc-le-zero g)
sum_at-triple (c ∷ cs) (suc n) i (suc j) zero s e g h l = absurd (not-suc-le-zero h)
sum_at-triple (c ∷ cs) (suc n) zero (suc j) (suc k) s e g h l = refl
sum_at-triple (c ∷ cs) (suc n) (suc i) (suc j) (suc k) s e g h l =
    sum_at-triple cs n i j k s (suc_inj e) (le_of_suc-le-suc g) (le_of_suc-le-suc h) (le_of_suc-le-suc l)

-- ---- which places they have
pub places-zeros : (k n : ℕ) → places_from k (zeros n) ≡ []
unfolding places_from
places-zeros k zero = refl
places-zeros k (suc n) = places-zeros (suc k) n

pub places-at : (k n i : ℕ) → i < n → places_from k (at n i) ≡ (k + i) ∷ []
unfolding places_from
places-at k zero i l = absurd (not-suc-le-zero l)
places-at k (suc n) zero l = rw (places-zeros (suc k) n, add-zero)
places-at k (suc n) (suc i) l = places-at (suc k) n i (le_of_suc-le-suc l) ∙ ap (λ (p : ℕ). p ∷ []) (omega arith)

pub places-pair : (k n i j : ℕ) → i < j → j < n → places_from k (pair n i j) ≡ (k + i) ∷ (k + j) ∷ []
unfolding places_from
places-pair k zero i j h l = absurd (not-suc-le-zero l)
places-pair k (suc n) i zero h l = absurd (not-suc-le-zero h)
places-pair k (suc n) zero (suc j) h l =
    ap (λ (ps : List ℕ). k ∷ ps) (places-at (suc k) n j (le_of_suc-le-suc l))
    ∙ cons (sym (add-zero k)) (cons (omega arith) refl)
places-pair k (suc n) (suc i) (suc j) h l =
    places-pair (suc k) n i j (le_of_suc-le-suc h) (le_of_suc-le-suc l) ∙ cons (omega arith) (cons (omega arith) refl)

pub places-triple : (p n i j k : ℕ) → i < j → j < k → k < n → places_from p (triple n i j k) ≡ (p + i) ∷ (p + j) ∷ (p + k) ∷ []
unfolding places_from
places-triple p zero i j k g h l = absurd (not-suc-le-zero l)
places-triple p (suc n) i zero k g h l = absurd (not-suc-le-zero g)
places-triple p (suc n) i (suc j) zero g h l = absurd (not-suc-le-zero h)
places-triple p (suc n) zero (suc j) (suc k) g h l =
    ap (λ (ps : List ℕ). p ∷ ps) (places-pair (suc p) n j k (le_of_suc-le-suc h) (le_of_suc-le-suc l))
    ∙ cons (sym (add-zero p)) (cons (omega arith) (cons (omega arith) refl))
places-triple p (suc n) (suc i) (suc j) (suc k) g h l =
    places-triple (suc p) n i j k (le_of_suc-le-suc g) (le_of_suc-le-suc h) (le_of_suc-le-suc l)
    ∙ cons (omega arith) (cons (omega arith) (cons (omega arith) refl))

-- ---- every mask with at most three ones is one of these
pub data Few (n : ℕ) (m : List ℕ) : Type 0 where
  zero-ones : m ≡ zeros n → Few n m
  one-one : (i : ℕ) → i < n → m ≡ at n i → Few n m
  two-ones : (i j : ℕ) → i < j → j < n → m ≡ pair n i j → Few n m
  three-ones : (i j k : ℕ) → i < j → j < k → k < n → m ≡ triple n i j k → Few n m

one_more : (n : ℕ) (m : List ℕ) → ones m ≤ 2 → Few n m → Few (suc n) (1 ∷ m)
one_more n m h (zero-ones e) = one-one zero (omega arith) (cons refl e)
one_more n m h (one-one i l e) = two-ones zero (suc i) (omega arith) (omega arith) (cons refl e)
one_more n m h (two-ones i j k l e) = three-ones zero (suc i) (suc j) (omega arith) (omega arith) (omega arith) (cons refl e)
one_more n m h (three-ones i j k a b l e) = absurd (omega (arith, h, ap ones e, ones-triple n i j k a b l))

none_more : (n : ℕ) (m : List ℕ) → Few n m → Few (suc n) (0 ∷ m)
none_more n m (zero-ones e) = zero-ones (cons refl e)
none_more n m (one-one i l e) = one-one (suc i) (omega arith) (cons refl e)
none_more n m (two-ones i j k l e) = two-ones (suc i) (suc j) (omega arith) (omega arith) (cons refl e)
none_more n m (three-ones i j k a b l e) = three-ones (suc i) (suc j) (suc k) (omega arith) (omega arith) (omega arith) (cons refl e)

pub few : (n : ℕ) (m : List ℕ) → length m ≡ n → Below 2 m → ones m ≤ 3 → Few n m
unfolding ones Below
few zero [] h b l = zero-ones refl
few zero (x ∷ m) h b l = absurd (suc-ne-zero _ h)
few (suc n) [] h b l = absurd (suc-ne-zero _ (sym h))
few (suc n) (zero ∷ m) h b l = none_more n m (few n m (suc_inj h) b.1 (omega arith))
few (suc n) (suc zero ∷ m) h b l = one_more n m (omega arith) (few n m (suc_inj h) b.1 (omega arith))
few (suc n) (suc (suc x) ∷ m) h b l = absurd (omega (arith, b.0))
