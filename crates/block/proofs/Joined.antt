-- Lists of one length, one behind the other.
--     length-joined         how long they are together
--     get_or-joined           element j of list i stands at place n i + j
--     below-joined          each of their elements is a digit where that holds of every list
-- Assumes nothing.
use mathlib.Core.Path.{◌≡◌, sym, ◌∙◌, subst}
use mathlib.Core.List.{List, [], ◌∷◌, map}
use Prim.Native.Nat.{ℕ, zero, suc, ◌+◌, ◌*◌, ◌<◌}
use native.Mathlib.Nat.{not-suc-le-zero, le_of_suc-le-suc, mul-suc, mul-zero}
use native.Mathlib.Omega.{arith}
use lib.ListN.{length, get_or, length-append, get_or-append}
use lib.Seq.{get_or-append-add}
use Rattle.bits.specs.Digits.{Below}
use Rattle.bits.proofs.Digits.{below-append}
use Rattle.block.specs.Layout.{joined}

module _ {A : Type 0} (n : ℕ) (f : A → List ℕ) (sized : (a : A) → length (f a) ≡ n) where
  pub length-joined : (l : List A) → length (joined (map f l)) ≡ n * length l
  unfolding joined
  length-joined [] = sym (mul-zero n)
  length-joined (a ∷ l) = length-append (f a) (joined (map f l)) ∙ rw (sized a, length-joined l, mul-suc) (omega arith)

  pub get_or-joined : (l : List A) (i j : ℕ) (d : A) → i < length l → j < n → get_or (joined (map f l)) (n * i + j) 0 ≡ get_or (f (get_or l i d)) j 0
  unfolding joined
  get_or-joined [] i j d h k = absurd (not-suc-le-zero h)
  get_or-joined (a ∷ l) zero j d h k =
      let at : n * zero + j ≡ j = rw mul-zero (omega arith) in
      rw at (get_or-append (f a) (joined (map f l)) 0 j (subst (λ (m : ℕ). j < m) (sym (sized a)) k))
  get_or-joined (a ∷ l) (suc i) j d h k =
      let at : n * suc i + j ≡ length (f a) + (n * i + j) = rw (mul-suc, sized a) (omega arith) in
      rw at (get_or-append-add (f a) (joined (map f l)) (n * i + j) 0 ∙ get_or-joined l i j d (le_of_suc-le-suc h) k)

pub below-joined : {A : Type 0} (b : ℕ) (f : A → List ℕ) → ((a : A) → Below b (f a)) → (l : List A) → Below b (joined (map f l))
unfolding joined Below
below-joined b f h [] = tt
below-joined b f h (a ∷ l) = below-append b (f a) (joined (map f l)) (h a) (below-joined b f h l)
