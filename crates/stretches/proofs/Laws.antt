-- Laws of stretches and of their lines, as the code goes through them.
--     from-append               stretches of two lists one behind the other, whatever their lengths
--     from_more                 one pair more
--     met-last, met-ended       what a pair does to the last stretch alone, and which lines it adds
-- Assumes nothing.
use mathlib.Core.Path.{◌≡◌, refl, sym, ap, ◌∙◌}
use mathlib.Core.Bool.{true, false}
use mathlib.Core.List.{List, [], ◌∷◌, ◌++◌, append-nil}
use Prim.Native.Nat.{ℕ, suc, ◌+◌, ◌<◌}
use native.Mathlib.Nat.{add-zero}
use native.Mathlib.Numerals.{add-one}
use native.Mathlib.Omega.{arith}
use lib.Dec.{ltb, eqb}
use lib.ListN.{length, get_or, take, drop}
use lib.Seq.{take-suc}
use Rattle.bits.proofs.Tests.{either_way}
use Rattle.text.specs.Pens.{Puts}
use Rattle.text.specs.declared.pen.Pen.{Pen}
use Rattle.text.proofs.Pens.{puts_as, puts_then}
use Rattle.label.specs.declared.Stretch.{Stretch}
use Rattle.std.specs.declared.option.Option.{Option}
use Rattle.std.specs.declared.option.Option.TheVariants.{Some, None}
use Rattle.stretches.specs.Stretches.{rest, fresh, grow, met, from, opened, counted}
use Rattle.label.specs.Lines.{lines}

sums : (n l : ℕ) → suc n + l ≡ n + suc l
sums n l = omega arith

pub from-append : (ss : List Stretch) (n : ℕ) (ks ls : List ℕ) → from ss n (ks ++ ls) ≡ from (from ss n ks) (n + length ks) ls
unfolding from
from-append ss n [] ls = ap (λ (m : ℕ). from ss m ls) (sym (add-zero n))
from-append ss n (k ∷ ks) ls = from-append (met ss n k) (suc n) ks ls ∙ ap (λ (m : ℕ). from (from (met ss n k) (suc n) ks) m ls) (sums n (length ks))

length-take : (i : ℕ) (ks : List ℕ) → i < length ks → length (take i ks) ≡ i
length-take i ks h = lib.Seq.length-take-le i ks (omega arith)

pub from_more : (ss : List Stretch) (n : ℕ) (ks : List ℕ) (i : ℕ) → i < length ks → from ss n (take (i + 1) ks) ≡ met (from ss n (take i ks)) (n + i) (get_or ks i 0)
unfolding from
from_more ss n ks i h =
    ap (from ss n) (ap (λ (m : ℕ). take m ks) (add-one i) ∙ take-suc ks i 0 h)
    ∙ from-append ss n (take i ks) (get_or ks i 0 ∷ [])
    ∙ ap (λ (m : ℕ). met (from ss n (take i ks)) (n + m) (get_or ks i 0)) (length-take i ks h)

-- ---- one pair
pub met-last : (ss : List Stretch) (n k : ℕ) → take 1 (met ss n k) ≡ take 1 (met (take 1 ss) n k)
unfolding met
met-last [] n k = refl
met-last (s ∷ ss) n k =
    either_way (eqb k 0) (λ e. rw e refl)
    (λ e. either_way (ltb n (s.behind + rest)) (λ h. rw (e, h) refl) (λ h. rw (e, h) refl))

pub met-ended : (ss : List Stretch) (n k : ℕ) → lines (drop 1 (met ss n k)) ≡ lines (drop 1 ss) ++ lines (drop 1 (met (take 1 ss) n k))
unfolding met lines
met-ended [] n k = either_way (eqb k 0) (λ e. rw e refl) (λ e. rw e refl)
met-ended (s ∷ ss) n k =
    either_way (eqb k 0) (λ e. rw e (sym (append-nil (lines ss))))
    (λ e. either_way (ltb n (s.behind + rest)) (λ h. rw (e, h) (sym (append-nil (lines ss)))) (λ h. rw (e, h) refl))

-- ---- the cases of the code
pub same-counts : (s : Stretch) (n k a b c : ℕ) → a ≡ counted s.bad (eqb k 1) → b ≡ counted s.none (eqb k 2) → c ≡ counted s.lost (ltb 2 k)
    → record { start = s.start; behind = n + 1; bad = a; none = b; lost = c } ≡ grow s n k
same-counts s n k a b c p q r = rw (p, q, r) refl

module _ (o : Option Stretch) (n k : ℕ) where
  pub quiet : eqb k 0 ≡ true → met (opened o) n k ≡ opened o
  unfolding met
  quiet e = go o
    where
      go : (o : Option Stretch) → met (opened o) n k ≡ opened o
      go None = rw e refl
      go (Some s) = rw e refl

  pub first : eqb k 0 ≡ false → o ≡ None → met (opened o) n k ≡ grow (fresh n) n k ∷ []
  unfolding met
  first e p = rw (p, e) refl

  pub on : (s : Stretch) → eqb k 0 ≡ false → o ≡ Some s → ltb n (s.behind + rest) ≡ true → met (opened o) n k ≡ grow s n k ∷ []
  unfolding met
  on s e p t = rw (p, e, t) refl

  pub anew : (s : Stretch) → eqb k 0 ≡ false → o ≡ Some s → ltb n (s.behind + rest) ≡ false → met (opened o) n k ≡ grow (fresh n) n k ∷ s ∷ []
  unfolding met
  anew s e p t = rw (p, e, t) refl

pub one-open : (o : Option Stretch) → take 1 (opened o) ≡ opened o
one-open None = refl
one-open (Some s) = refl

pub none-ended : (o : Option Stretch) → drop 1 (opened o) ≡ []
none-ended None = refl
none-ended (Some s) = refl

-- ---- one turn of the loop, where m are the stretches before it
module _ (o : Option Stretch) (n : ℕ) (ks : List ℕ) (i : ℕ) (within : i < length ks) (g : Option Stretch) (known : opened g ≡ take 1 (from (opened o) n (take i ks))) where
  abbrev m : List Stretch
  m = from (opened o) n (take i ks)

  pub turn_last : (g' : Option Stretch) → opened g' ≡ take 1 (met (opened g) (n + i) (get_or ks i 0)) → opened g' ≡ take 1 (from (opened o) n (take (i + 1) ks))
  turn_last g' e =
      e
      ∙ ap (λ (ss : List Stretch). take 1 (met ss (n + i) (get_or ks i 0))) known
      ∙ sym (met-last m (n + i) (get_or ks i 0))
      ∙ ap (take 1) (sym (from_more (opened o) n ks i within))

  pub turn_lines :
      {a b c : Pen} → Puts a b (lines (drop 1 (from (opened o) n (take i ks)))) → Puts b c (lines (drop 1 (met (opened g) (n + i) (get_or ks i 0)))) →
      Puts a c (lines (drop 1 (from (opened o) n (take (i + 1) ks))))
  turn_lines e f =
      puts_as
      (ap (λ (ss : List Stretch). lines (drop 1 m) ++ lines (drop 1 (met ss (n + i) (get_or ks i 0)))) known
      ∙ sym (met-ended m (n + i) (get_or ks i 0))
      ∙ ap (λ (ss : List Stretch). lines (drop 1 ss)) (sym (from_more (opened o) n ks i within)))
      (puts_then e f)
