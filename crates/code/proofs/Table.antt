-- The computed test behind the smallest distances: no sum of at most j columns is the column of the top place with at most i others.
-- The sums with the top column make a set, a binary trie. Nothing is proved of how it is made: two tests ask the finished set about every sum.
--     tests g n i j                 the test, for the generator g and n places below the top one
--     apart                         what a passed test says of two sets of places
--     block-passed, scale-passed    the test at the two generators
-- Assumes nothing.
use mathlib.Core.Path.{◌≡◌, refl, sym, ap, ◌∙◌, subst}
use mathlib.Core.Bool.{Bool, true, false, not, ◌&&◌}
use mathlib.Core.List.{List, [], ◌∷◌}
use Prim.Native.Nat.{ℕ, zero, suc, ◌≤◌}
use native.Mathlib.Omega.{arith}
use lib.Dec.{T, T_not}
use lib.ListN.{length}
use Rattle.bits.specs.Bits.{ones}
use Rattle.bits.specs.Digits.{Below}
use Rattle.remainder.specs.Polynomial.{◌⊕◌, zeros, times}
use Rattle.remainder.specs.Remainder.{take_off, step, divide, remainder}
use Rattle.remainder.specs.Columns.{column, columns}
use Rattle.remainder.proofs.Sum.{zeros-⊕, length-zeros, below-zeros}
use Rattle.remainder.proofs.Division.{length-remainder, below-remainder}
use Rattle.remainder.proofs.Columns.{sum_at, sum_at-none, sum_at-remainder, length-column, below-column, remainder-one}
use Rattle.code.specs.Generators.{power, powers, block_generator, scale_generator}

-- ---- a test of every sum of at most k columns
all : (List ℕ → Bool) → ℕ → List (List ℕ) → List ℕ → Bool
all f zero cs acc = f acc
all f (suc k) [] acc = f acc
all f (suc k) (c ∷ cs) acc = all f k cs (acc ⊕ c) && all f (suc k) cs acc

and_left : (a b : Bool) → T (a && b) → T a
and_left true b t = tt
and_left false b t = t

and_right : (a b : Bool) → T (a && b) → T b
and_right true b t = t
and_right false b t = absurd t

all-at : (f : List ℕ → Bool) (k : ℕ) (cs : List (List ℕ)) (acc e : List ℕ) → T (all f k cs acc) → Below 2 e → ones e ≤ k → T (f (sum_at cs e acc))
unfolding all sum_at ones Below
all-at f zero cs acc e t b h = subst (λ (l : List ℕ). T (f l)) (sym (sum_at-none cs e acc b h)) t
all-at f (suc k) [] acc e t b h = t
all-at f (suc k) (c ∷ cs) acc [] t b h = all-at f (suc k) cs acc [] (and_right (all f k cs (acc ⊕ c)) (all f (suc k) cs acc) t) b h
all-at f (suc k) (c ∷ cs) acc (zero ∷ e) t b h =
    all-at f (suc k) cs acc e (and_right (all f k cs (acc ⊕ c)) (all f (suc k) cs acc) t) b.1 (omega arith)
all-at f (suc k) (c ∷ cs) acc (suc zero ∷ e) t b h =
    all-at f k cs (acc ⊕ c) e (and_left (all f k cs (acc ⊕ c)) (all f (suc k) cs acc) t) b.1 (omega arith)
all-at f (suc k) (c ∷ cs) acc (suc (suc x) ∷ e) t b h = absurd (omega (arith, b.0))

-- ---- a set of lists of bits
data Trie : Type 0 where
  off on : Trie
  fork : Trie → Trie → Trie

member : Trie → List ℕ → Bool
member off bs = false
member on bs = true
member (fork l r) [] = false
member (fork l r) (zero ∷ bs) = member l bs
member (fork l r) (suc x ∷ bs) = member r bs

insert : List ℕ → Trie → Trie
insert [] t = on
insert (zero ∷ bs) off = fork (insert bs off) off
insert (zero ∷ bs) on = on
insert (zero ∷ bs) (fork l r) = fork (insert bs l) r
insert (suc x ∷ bs) off = fork off (insert bs off)
insert (suc x ∷ bs) on = on
insert (suc x ∷ bs) (fork l r) = fork l (insert bs r)

collect : ℕ → List (List ℕ) → List ℕ → Trie → Trie
collect zero cs acc t = insert acc t
collect (suc k) [] acc t = insert acc t
collect (suc k) (c ∷ cs) acc t = collect (suc k) cs acc (collect k cs (acc ⊕ c) t)

-- ---- values: a list that is handed on as a call would be computed anew at each use
force : {R : Type 0} → List ℕ → (List ℕ → R) → R
force [] k = k []
force (zero ∷ xs) k = force xs (λ r. k (zero ∷ r))
force (suc x ∷ xs) k = force xs (λ r. k (suc x ∷ r))

force-is : {R : Type 0} (xs : List ℕ) (k : List ℕ → R) → force xs k ≡ k xs
unfolding force
force-is [] k = refl
force-is (zero ∷ xs) k = force-is xs (λ r. k (zero ∷ r))
force-is (suc x ∷ xs) k = force-is xs (λ r. k (suc x ∷ r))

forces : {R : Type 0} → List (List ℕ) → (List (List ℕ) → R) → R
forces [] k = k []
forces (c ∷ cs) k = force c (λ x. forces cs (λ xs. k (x ∷ xs)))

forces-is : {R : Type 0} (cs : List (List ℕ)) (k : List (List ℕ) → R) → forces cs k ≡ k cs
unfolding forces
forces-is [] k = refl
forces-is (c ∷ cs) k = force-is c (λ x. forces cs (λ xs. k (x ∷ xs))) ∙ forces-is cs (λ xs. k (c ∷ xs))

-- ---- every sum of at most i columns and the top is in the set, and no sum of at most j is
both : ℕ → ℕ → List ℕ → List (List ℕ) → Trie → Bool
both i j top cs set = all (member set) i cs top && all (λ s. not (member set s)) j cs (zeros (length top))

tested : ℕ → ℕ → List ℕ → List (List ℕ) → Bool
tested i j top cs = both i j top cs (collect i cs top off)

pub tests : List ℕ → ℕ → ℕ → ℕ → Bool
tests g n i j = force g (λ g. force (column g n) (λ top. forces (columns g n) (λ cs. tested i j top cs)))

tests-is : (g : List ℕ) (n i j : ℕ) → tests g n i j ≡ tested i j (column g n) (columns g n)
unfolding tests
tests-is g n i j =
    force-is g (λ g. force (column g n) (λ top. forces (columns g n) (λ cs. tested i j top cs)))
    ∙ force-is (column g n) (λ top. forces (columns g n) (λ cs. tested i j top cs))
    ∙ forces-is (columns g n) (λ cs. tested i j (column g n) cs)

-- so two sets of places never have one remainder, of which one has the top place and at most i others, and the other at most j of those
pub apart : (g : List ℕ) (n i j : ℕ) → T (tests g n i j) → (a b : List ℕ) → length a ≡ n → length b ≡ n → Below 2 a → Below 2 b → ones a ≤ i → ones b ≤ j
    → remainder g (1 ∷ a) ≡ remainder g b → ⊥
unfolding both tested
apart g n i j passed a b ha hb ba bb wa wb e = T_not (member set (remainder g b)) not_in is-in
  where
    top : List ℕ
    top = column g n

    cs : List (List ℕ)
    cs = columns g n

    set : Trie
    set = collect i cs top off

    yes-in : Bool
    yes-in = all (member set) i cs top

    none_in : Bool
    none_in = all (λ s. not (member set s)) j cs (zeros (length top))

    held : T (yes-in && none_in)
    held = subst T (tests-is g n i j) passed

    sum : (x acc : List ℕ) → length x ≡ n → Below 2 x → Below 2 acc → length acc ≡ length g → sum_at cs x acc ≡ acc ⊕ remainder g x
    sum x acc h bx bacc k = ap (λ (m : ℕ). sum_at (columns g m) x acc) (sym h) ∙ sum_at-remainder g x acc bx bacc k

    is-in : T (member set (remainder g b))
    is-in =
        subst (λ (l : List ℕ). T (member set l))
        (sum a top ha ba (below-column g n) (length-column g n)
        ∙ ap (λ (m : ℕ). column g m ⊕ remainder g a) (sym ha) ∙ sym (remainder-one g a ba) ∙ e)
        (all-at (member set) i cs top a (and_left yes-in none_in held) ba wa)

    not_in : T (not (member set (remainder g b)))
    not_in =
        subst (λ (l : List ℕ). T (not (member set l)))
        (sum b (zeros (length top)) hb bb (below-zeros (length top)) (length-zeros (length top) ∙ length-column g n)
        ∙ zeros-⊕ (remainder g b) (length top) (below-remainder g b) (length-remainder g b ∙ sym (length-column g n)))
        (all-at (λ s. not (member set s)) j cs (zeros (length top)) b (and_right yes-in none_in held) bb wb)

-- 1,954 sums with the top column, and 39,774 without
pub block-passed : T (tests block_generator 62 2 3)
unfolding tests tested both force forces all member insert collect column columns remainder divide step take_off times ◌⊕◌ power powers block_generator
block-passed = tt

-- 14 and 92
pub scale-passed : T (tests scale_generator 13 1 2)
unfolding tests tested both force forces all member insert collect column columns remainder divide step take_off times ◌⊕◌ power powers scale_generator
scale-passed = tt
