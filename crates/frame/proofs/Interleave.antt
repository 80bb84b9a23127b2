-- Laws of two rows that are interleaved.
--     length-interleave                  how long they are together
--     interleave-even, interleave-odd    the first row stands at the even places, counted from 0, and the second at the odd ones
--     below-interleave                   bits stay bits
-- Assumes nothing.
use mathlib.Core.Path.{◌≡◌, refl, ap, ◌∙◌}
use mathlib.Core.List.{List, [], ◌∷◌}
use Prim.Native.Nat.{ℕ, zero, suc, ◌+◌, ◌*◌}
use native.Mathlib.Omega.{arith}
use lib.ListN.{length, get_or}
use Rattle.bits.specs.Digits.{Below}
use Rattle.frame.specs.Frame.{interleave}

pub length-interleave : (p q : List ℕ) → length p ≡ length q → length (interleave p q) ≡ 2 * length p
unfolding interleave
length-interleave [] q e = refl
length-interleave (x ∷ p) [] e = absurd (omega arith)
length-interleave (x ∷ p) (y ∷ q) e = let rest = length-interleave p q (omega arith) in omega arith

pub interleave-even : (p q : List ℕ) (j : ℕ) → length p ≡ length q → get_or (interleave p q) (2 * j) 0 ≡ get_or p j 0
unfolding interleave
interleave-even [] q j e = refl
interleave-even (x ∷ p) [] j e = absurd (omega arith)
interleave-even (x ∷ p) (y ∷ q) zero e = refl
interleave-even (x ∷ p) (y ∷ q) (suc j) e =
    let two : 2 * suc j ≡ suc (suc (2 * j)) = omega arith in
    ap (λ (k : ℕ). get_or (interleave (x ∷ p) (y ∷ q)) k 0) two ∙ interleave-even p q j (omega arith)

pub interleave-odd : (p q : List ℕ) (j : ℕ) → length p ≡ length q → get_or (interleave p q) (2 * j + 1) 0 ≡ get_or q j 0
unfolding interleave
interleave-odd [] [] j e = refl
interleave-odd [] (y ∷ q) j e = absurd (omega arith)
interleave-odd (x ∷ p) [] j e = absurd (omega arith)
interleave-odd (x ∷ p) (y ∷ q) zero e = refl
interleave-odd (x ∷ p) (y ∷ q) (suc j) e =
    let two : 2 * suc j + 1 ≡ suc (suc (2 * j + 1)) = omega arith in
    ap (λ (k : ℕ). get_or (interleave (x ∷ p) (y ∷ q)) k 0) two ∙ interleave-odd p q j (omega arith)

pub below-interleave : (p q : List ℕ) → Below 2 p → Below 2 q → Below 2 (interleave p q)
unfolding interleave Below
below-interleave [] q h k = tt
below-interleave (x ∷ p) [] h k = tt
below-interleave (x ∷ p) (y ∷ q) h k = (h.0, (k.0, below-interleave p q h.1 k.1))
