-- Scale words sent three times.
--     length-thrice             they have 42 bits
--     fifteen                   those of two pairs are 15 apart, as the words are 5 apart
--     near-seven                one that differs in at most seven places is nearer than every other
-- Assumes nothing.
use mathlib.Core.Path.{◌≡◌, sym, ap, ◌∙◌}
use mathlib.Core.List.{List, ◌++◌}
use Prim.Native.Nat.{ℕ, ◌+◌, ◌*◌, ◌/◌, ◌%◌, ◌≤◌, ◌<◌}
use native.Mathlib.Omega.{arith}
use lib.ListN.{length, length-append}
use Rattle.code.specs.Words.{distance}
use Rattle.code.proofs.Distance.{distance-comm, distance-append, distance-triangle}
use Rattle.code.proofs.Smallest.{scale-smallest}
use Rattle.scale.proofs.Word.{word_of, scale-word, length-scale_word, word-pair}
use Rattle.nearest.specs.Reading.{thrice, away}
use Rattle.nearest.proofs.Fewest.{Single}

distance-thrice : (v w : List ℕ) → length v ≡ length w → distance (thrice v) (thrice w) ≡ 3 * distance v w
distance-thrice v w h =
    distance-append v w (v ++ v) (w ++ w) h ∙ ap (λ (n : ℕ). distance v w + n) (distance-append v w v w h) ∙ omega arith

pub length-thrice : (n : ℕ) → length (thrice (word_of n)) ≡ 42
length-thrice n =
    let size : length (word_of n) ≡ 14 = length-scale_word (n / 8) (n % 8) in
    length-append (word_of n) (word_of n ++ word_of n) ∙ ap (λ (k : ℕ). length (word_of n) + k) (length-append (word_of n) (word_of n)) ∙ omega arith

pub fifteen : (n m : ℕ) → n < 64 → m < 64 → (n ≡ m → ⊥) → 15 ≤ distance (thrice (word_of n)) (thrice (word_of m))
fifteen n m h k o =
    let five : 5 ≤ distance (word_of n) (word_of m) =
    scale-smallest.apart (word_of n) (word_of m) (scale-word (n / 8) (n % 8)) (scale-word (m / 8) (m % 8)) (λ e. o (word-pair n m h k e)) in
    let three : distance (thrice (word_of n)) (thrice (word_of m)) ≡ 3 * distance (word_of n) (word_of m) =
    distance-thrice (word_of n) (word_of m) (length-scale_word (n / 8) (n % 8) ∙ sym (length-scale_word (m / 8) (m % 8))) in
    omega arith

pub near-seven : (bits : List ℕ) → length bits ≡ 42 → (n : ℕ) → n < 64 → away bits n ≤ 7 → Single bits n
unfolding away
near-seven bits size n h a =
    record {
      within = h;
      nearer = λ m l o.
          let far : 15 ≤ distance (thrice (word_of m)) (thrice (word_of n)) = fifteen m n l h o in
          let sum : distance (thrice (word_of m)) (thrice (word_of n)) ≤ distance (thrice (word_of m)) bits + distance bits (thrice (word_of n)) =
          distance-triangle (thrice (word_of m)) bits (thrice (word_of n)) (size ∙ sym (length-thrice n)) in
          let back : distance bits (thrice (word_of n)) ≡ distance (thrice (word_of n)) bits = distance-comm bits (thrice (word_of n)) in
          omega arith;
    }
