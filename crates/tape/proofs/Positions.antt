-- Blocks counted: by kind, position by position as the reader counts them, and in tape order.
--     many-split            places counted in two parts
--     positions-sum         the blocks that pass a test in the eight positions are those that pass it on tape
--     kinds-sum             of three kinds each place has one
--     blocks-all            64 blocks are counted in each of the eight positions
--     carries-tested        the test of what a block carries passes where document 01's sentence says that it carries a programme
--     carries-there         a block on tape carries programme q exactly where it stands in the position of q
--     programme-counted     what is counted in the position of programme q are the blocks on tape that carry it
--     programmes-twice      so the sixteen programmes have each block twice
-- Assumes nothing.
use mathlib.Core.Path.{◌≡◌, refl, sym, ap, ◌∙◌}
use mathlib.Core.Bool.{Bool, true, false, cond}
use mathlib.Core.List.{List}
use Prim.Native.Nat.{ℕ, zero, suc, ◌+◌, ◌-◌, ◌*◌, ◌/◌, ◌%◌, ◌<◌, ◌≤◌}
use native.Mathlib.Nat.{add-zero, add-suc}
use native.Mathlib.Omega.{arith}
use borrow.Author.Tests.{eqb-true, eqb-false, eq-eqb, ne_eqb, ltb-true, ltb-false, lt-ltb, le-ltb}
use lib.Dec.{eqb, ltb}
use lib.ListN.{get_or}
use Rattle.bits.proofs.Table.{get_or-tab}
use Rattle.bits.proofs.Tests.{either_way}
use Rattle.block.specs.Read.{bad}
use Rattle.block.specs.Mark.{kind_of}
use Rattle.tape.specs.Tape.{sum_to, readings, tape_of, reading_in, how_many, tallied_by, kind_in, blocks_of}
use Rattle.tape.specs.Document.{Carries, a_first, a_second, b-first, b-second, one_of, carries_on_tape, programme_blocks}
use Rattle.tape.proofs.Tape.{many-same, kind-small}

pub many-split : (m n : ℕ) (P : ℕ → Bool) → how_many (m + n) P ≡ how_many m P + how_many n (λ i. P (m + i))
unfolding how_many
many-split m zero P = ap (λ (k : ℕ). how_many k P) (add-zero m) ∙ omega arith
many-split m (suc n) P = let h = many-split m n P in ap (λ (k : ℕ). how_many k P) (add-suc m n) ∙ omega (arith, h)

-- ---- positions
-- of 4 n places, those whose place among four is b
abbrev every_fourth : ℕ → (ℕ → Bool) → ℕ → ℕ
every_fourth n P b = how_many n (λ f. P (4 * f + b))

four-more : (n : ℕ) → 4 * suc n ≡ 4 * n + 4
four-more n = omega arith

four-ways : (n : ℕ) (P : ℕ → Bool) →
    how_many (4 * n) P ≡ every_fourth n P 0 + (every_fourth n P 1 + (every_fourth n P 2 + every_fourth n P 3))
unfolding how_many
four-ways zero P = refl
four-ways (suc n) P =
    let h = four-ways n P in
    let s = many-split (4 * n) 4 P in
    ap (λ (k : ℕ). how_many k P) (four-more n) ∙ omega (arith, h, s)

-- block t of one of the two streams, and the places of it that stand in position b of its four
in-position : (P : ℕ → Bool) (h b : ℕ) → h < 2 → b < 4 → how_many 64 (λ f. P (tape_of f (4 * h + b))) ≡ every_fourth 64 (λ t. P (256 * h + t)) b
in-position P h b l l' = many-same 64 _ _ (λ f _. ap P (omega (arith, l, l')))

four_same : (a b c d a' b' c' d' : ℕ) → a ≡ a' → b ≡ b' → c ≡ c' → d ≡ d' → a + (b + (c + d)) ≡ a' + (b' + (c' + d'))
four_same a b c d a' b' c' d' p q r s = rw (p, q, r, s) refl

-- how many blocks in a position pass a test
abbrev pub in_position : (ℕ → Bool) → ℕ → ℕ
in_position P p = how_many 64 (λ f. P (tape_of f p))

-- stream h: A is 0, B is 1
stream-sum : (P : ℕ → Bool) (h : ℕ) → h < 2 →
    in_position P (4 * h + 0) + (in_position P (4 * h + 1) + (in_position P (4 * h + 2) + in_position P (4 * h + 3))) ≡ how_many 256 (λ t. P (256 * h + t))
stream-sum P h l =
    four_same _ _ _ _ _ _ _ _
    (in-position P h 0 l (omega arith))
    (in-position P h 1 l (omega arith))
    (in-position P h 2 l (omega arith))
    (in-position P h 3 l (omega arith))
    ∙ sym (four-ways 64 (λ t. P (256 * h + t)))

eight : (g : ℕ → ℕ) → sum_to 8 g ≡ (g 0 + (g 1 + (g 2 + g 3))) + (g 4 + (g 5 + (g 6 + g 7)))
unfolding sum_to
eight g = omega arith

pub positions-sum : (P : ℕ → Bool) → sum_to 8 (in_position P) ≡ how_many 512 P
positions-sum P =
    eight (in_position P)
    ∙ ap (λ (a : ℕ). a + (in_position P 4 + (in_position P 5 + (in_position P 6 + in_position P 7))))
    (stream-sum P 0 (omega arith) ∙ many-same 256 (λ t. P (256 * 0 + t)) P (λ t _. ap P (omega arith)))
    ∙ ap (λ (b : ℕ). how_many 256 P + b) (stream-sum P 1 (omega arith))
    ∙ sym (many-split 256 256 P)

-- ---- kinds
pub kinds-sum : (n : ℕ) (k : ℕ → ℕ) → ((i : ℕ) → k i < 3) → how_many n (λ i. eqb (k i) 0) + how_many n (λ i. eqb (k i) 1) + how_many n (λ i. eqb (k i) 2) ≡ n
unfolding how_many
kinds-sum zero k h = refl
kinds-sum (suc n) k h =
    let before = kinds-sum n k h in
    let small = h n in
    either_way (eqb (k n) 0)
    (λ t. let e = eqb-true (k n) 0 t in rw (t, ne_eqb (k n) 1 (λ f. omega (arith, e, f)), ne_eqb (k n) 2 (λ f. omega (arith, e, f))) (omega (arith, before)))
    (λ t.
    let no = eqb-false (k n) 0 t in
    either_way (eqb (k n) 1)
    (λ u. let e = eqb-true (k n) 1 u in rw (t, u, ne_eqb (k n) 2 (λ f. omega (arith, e, f))) (omega (arith, before)))
    (λ u. rw (t, u, eq-eqb (k n) 2 (at-two (k n) small no (eqb-false (k n) 1 u))) (omega (arith, before))))
  where
    at-two : (m : ℕ) → m < 3 → (m ≡ 0 → ⊥) → (m ≡ 1 → ⊥) → m ≡ 2
    at-two zero l z o = absurd (z refl)
    at-two (suc zero) l z o = absurd (o refl)
    at-two (suc (suc zero)) l z o = refl
    at-two (suc (suc (suc m))) l z o = absurd (omega (arith, l))

module _ (radius : ℕ) (sf : List ℕ) where
  tally-at : (k p : ℕ) → p < 8 → get_or (tallied_by (kind_in radius sf) k) p 0 ≡ how_many 64 (λ f. eqb (kind_in radius sf f p) k)
  tally-at k p l = get_or-tab 8 (λ p. how_many 64 (λ f. eqb (kind_in radius sf f p) k)) p 0 l

  pub blocks-all : (p : ℕ) → p < 8 → get_or (blocks_of radius sf).clean p 0 + get_or (blocks_of radius sf).mended p 0 + get_or (blocks_of radius sf).bad p 0 ≡ 64
  unfolding blocks_of kind_in
  blocks-all p l =
      rw (tally-at 0 p l, tally-at 1 p l, tally-at 2 p l)
      (kinds-sum 64 (λ f. kind_of (reading_in radius sf f p)) (λ f. kind-small (reading_in radius sf f p)))

-- ---- the blocks of a programme
sum_same : (n : ℕ) (g h : ℕ → ℕ) → ((i : ℕ) → i < n → g i ≡ h i) → sum_to n g ≡ sum_to n h
unfolding sum_to
sum_same zero g h e = refl
sum_same (suc n) g h e = rw (sum_same n g h (λ i l. e i (omega arith)), e n (omega arith))

-- of a sum in which one place counts, that place
one-counts : (n m : ℕ) (g : ℕ → ℕ) → sum_to n (λ p. cond (eqb p m) (g p) 0) ≡ cond (ltb m n) (g m) 0
unfolding sum_to
one-counts zero m g = rw (le-ltb m 0 (omega arith))
one-counts (suc n) m g =
    let before = one-counts n m g in
    either_way (eqb n m)
    (λ t.
    let e = eqb-true n m t in
    rw (t, before, le-ltb m n (omega (arith, e)), lt-ltb m (suc n) (omega (arith, e))) (omega (arith, ap g e)))
    (λ t.
    let other = eqb-false n m t in
    either_way (ltb m n)
    (λ u. let l = ltb-true m n u in rw (t, before, u, lt-ltb m (suc n) (omega (arith, l))) (omega arith))
    (λ u. let l = ltb-false m n u in rw (t, before, u, le-ltb m (suc n) (past other l)) (omega arith)))
  where
    past : (n ≡ m → ⊥) → n ≤ m → suc n ≤ m
    past other l = either_way (ltb n m) (λ t. let u = ltb-true n m t in omega (arith, u)) (λ t. let u = ltb-false n m t in absurd (other (omega (arith, l, u))))

-- block b of main frame n of the 128, both from 1
tested_at : (n b q : ℕ) → 1 ≤ n → 1 ≤ b → b ≤ 4 → (test : Bool) → ltb (n - 1) 64 ≡ test
    → carries_on_tape (4 * (n - 1) + (b - 1)) q ≡ cond test (one_of (2 * b - 1) (2 * b) q) (one_of (2 * b + 7) (2 * b + 8) q)
unfolding carries_on_tape
tested_at n b q k l u test e =
    let frame : (4 * (n - 1) + (b - 1)) / 4 ≡ n - 1 = omega arith in
    let place : (4 * (n - 1) + (b - 1)) % 4 + 1 ≡ b = omega arith in
    rw (frame, place, e)

pub carries-tested : (f b q frame place : ℕ) → 1 ≤ f → f ≤ 64 → 1 ≤ b → b ≤ 4 → Carries f b q frame place → carries_on_tape (4 * (frame - 1) + (b - 1)) q ≡ true
carries-tested f b q frame place k m l u a_first =
    tested_at f b (2 * b - 1) k l u true (lt-ltb (f - 1) 64 (omega arith)) ∙ rw (eq-eqb (2 * b - 1) (2 * b - 1) refl)
carries-tested f b q frame place k m l u a_second =
    tested_at f b (2 * b) k l u true (lt-ltb (f - 1) 64 (omega arith)) ∙ rw (ne_eqb (2 * b) (2 * b - 1) (λ e. omega (arith, e, l)), eq-eqb (2 * b) (2 * b) refl)
carries-tested f b q frame place k m l u b-first =
    tested_at (64 + f) b (2 * b + 7) (omega arith) l u false (le-ltb (64 + f - 1) 64 (omega arith)) ∙ rw (eq-eqb (2 * b + 7) (2 * b + 7) refl)
carries-tested f b q frame place k m l u b-second =
    tested_at (64 + f) b (2 * b + 8) (omega arith) l u false (le-ltb (64 + f - 1) 64 (omega arith)) ∙ rw (ne_eqb (2 * b + 8) (2 * b + 7) (λ e. omega (arith, e)), eq-eqb (2 * b + 8) (2 * b + 8) refl)

-- programmes 2 p + 1 and 2 p + 2 are those of position p
two-of : (p m n q : ℕ) → m ≡ 2 * p + 1 → n ≡ 2 * p + 2 → 1 ≤ q → one_of m n q ≡ eqb p ((q - 1) / 2)
two-of p m n q first second low =
    either_way (eqb q m)
    (λ t. let e = eqb-true q m t in rw (t, eq-eqb p ((q - 1) / 2) (omega (arith, e, first))))
    (λ t. either_way (eqb q n)
    (λ u. let e = eqb-true q n u in rw (t, u, eq-eqb p ((q - 1) / 2) (omega (arith, e, second))))
    (λ u. rw (
      t,
      u,
      ne_eqb p ((q - 1) / 2) (λ e.
          either_way (eqb ((q - 1) % 2) 0)
          (λ v. let even = eqb-true ((q - 1) % 2) 0 v in eqb-false q m t (omega (arith, e, even, first, low)))
          (λ v. let odd = eqb-false ((q - 1) % 2) 0 v in eqb-false q n u (at-odd e odd))),
    )))
  where
    at-odd : p ≡ (q - 1) / 2 → ((q - 1) % 2 ≡ 0 → ⊥) → q ≡ n
    at-odd e odd =
        either_way (eqb ((q - 1) % 2) 1)
        (λ v. let one = eqb-true ((q - 1) % 2) 1 v in omega (arith, e, one, second, low))
        (λ v. absurd (small ((q - 1) % 2) (omega arith) odd (eqb-false ((q - 1) % 2) 1 v)))
      where
        small : (r : ℕ) → r < 2 → (r ≡ 0 → ⊥) → (r ≡ 1 → ⊥) → ⊥
        small zero l z o = z refl
        small (suc zero) l z o = o refl
        small (suc (suc r)) l z o = omega (arith, l)

pub carries-there : (f p q : ℕ) → f < 64 → p < 8 → 1 ≤ q → carries_on_tape (tape_of f p) q ≡ eqb p ((q - 1) / 2)
unfolding carries_on_tape
carries-there f p q l h low =
    let frame : tape_of f p / 4 ≡ f + 64 * (p / 4) = omega arith in
    let place : tape_of f p % 4 ≡ p % 4 = omega arith in
    either_way (ltb p 4)
    (λ t.
    let a = ltb-true p 4 t in
    rw (frame, place, lt-ltb (f + 64 * (p / 4)) 64 (omega (arith, a, l)))
    (two-of p (2 * (p % 4 + 1) - 1) (2 * (p % 4 + 1)) q (omega (arith, a)) (omega (arith, a)) low))
    (λ t.
    let b = ltb-false p 4 t in
    rw (frame, place, le-ltb (f + 64 * (p / 4)) 64 (omega (arith, b, h)))
    (two-of p (2 * (p % 4 + 1) + 7) (2 * (p % 4 + 1) + 8) q (omega (arith, b, h)) (omega (arith, b, h)) low))

-- a test that no place passes
many-none : (n : ℕ) (P : ℕ → Bool) → ((i : ℕ) → i < n → P i ≡ false) → how_many n P ≡ 0
unfolding how_many
many-none zero P h = refl
many-none (suc n) P h = rw (many-none n P (λ i l. h i (omega arith)), h n (omega arith))

module _ (radius : ℕ) (sf : List ℕ) (k q : ℕ) (low : 1 ≤ q) (high : q ≤ 16) where
  abbrev here : ℕ
  here = (q - 1) / 2

  abbrev so : ℕ → Bool
  so t = eqb (kind_of (get_or (readings radius sf) t bad)) k

  abbrev carried-so : ℕ → Bool
  carried-so t = cond (carries_on_tape t q) (so t) false

  in_place : (p : ℕ) → p < 8 → in_position carried-so p ≡ cond (eqb p here) (in_position so p) 0
  in_place p h =
      either_way (eqb p here)
      (λ t. rw t (many-same 64 (λ f. carried-so (tape_of f p)) (λ f. so (tape_of f p)) (λ f l. rw (carries-there f p q l h low ∙ t))))
      (λ t. rw t (many-none 64 (λ f. carried-so (tape_of f p)) (λ f l. rw (carries-there f p q l h low ∙ t))))

  pub programme-counted : get_or (tallied_by (kind_in radius sf) k) here 0 ≡ programme_blocks radius k q sf
  unfolding programme_blocks kind_in reading_in
  programme-counted =
      tally-at radius sf k here (omega arith)
      ∙ sym (one-counts 8 here (in_position so) ∙ rw (lt-ltb here 8 (omega arith)))
      ∙ sym (sum_same 8 (in_position carried-so) (λ p. cond (eqb p here) (in_position so p) 0) in_place)
      ∙ positions-sum carried-so

twice : (g : ℕ → ℕ) → sum_to 16 (λ i. g (i / 2)) ≡ 2 * sum_to 8 g
unfolding sum_to
twice g = omega arith

module _ (radius : ℕ) (sf : List ℕ) (k : ℕ) where
  abbrev of-kind : ℕ → Bool
  of-kind t = eqb (kind_of (get_or (readings radius sf) t bad)) k

  in-its-position : (i : ℕ) → i < 16 → programme_blocks radius k (i + 1) sf ≡ in_position of-kind (i / 2)
  unfolding kind_in reading_in
  in-its-position i l =
      let from_one : i + 1 - 1 ≡ i = omega arith in
      sym (programme-counted radius sf k (i + 1) (omega arith) (omega arith))
      ∙ tally-at radius sf k ((i + 1 - 1) / 2) (omega arith)
      ∙ ap (λ (j : ℕ). in_position of-kind (j / 2)) from_one

  pub programmes-twice : sum_to 16 (λ i. programme_blocks radius k (i + 1) sf) ≡ 2 * how_many 512 of-kind
  programmes-twice =
      sum_same 16 (λ i. programme_blocks radius k (i + 1) sf) (λ i. in_position of-kind (i / 2)) in-its-position
      ∙ twice (in_position of-kind) ∙ ap (λ (n : ℕ). 2 * n) (positions-sum of-kind)
