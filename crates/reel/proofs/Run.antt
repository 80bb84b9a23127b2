-- Laws of runs.
--     empty-run                       no bytes are a run, which has no first superframe
--     run-lengths, run-of-length      a run is a whole number of superframes, at most 1,000,000; and every such length is a run's
--     run-counted, no_run             what counting says of the bytes
--     part-inside, part-before, part-behind, part-no-run    the way to each number of a part
--     part-refused                    what counting is refused for, asking is refused for
--     part-there                      number 0 says that there is a run, and that it has this superframe
--     length-superframe               a superframe of a run has 5,120 bytes
--     first_of run n                   the first n superframes, one behind the other
--     superframes-whole               all of them are the run: nothing is lost between them
-- Assumes nothing.
use mathlib.Core.Path.{◌≡◌, refl, sym, ap, ◌∙◌}
use mathlib.Core.Bool.{Bool, true, false, cond, ◌&&◌}
use mathlib.Core.List.{List, [], ◌∷◌, ◌++◌}
use Prim.Native.Nat.{ℕ, zero, suc, ◌+◌, ◌-◌, ◌*◌, ◌/◌, ◌%◌, ◌<◌, ◌≤◌}
use native.Mathlib.Nat.{suc-ne-zero}
use native.Mathlib.Omega.{arith}
use borrow.Author.Tests.{eq-eqb, le-leb, lt-leb, eqb-true, leb-true}
use lib.Dec.{eqb, leb}
use lib.ListN.{length, get_or, take, length-take, length-drop}
use lib.Seq.{take-add, take_all}
use Rattle.bits.specs.Answer.{Answer, accepted, refused}
use Rattle.bits.specs.Refused.{number_of}
use Rattle.bits.specs.declared.refusal.Refusal.{Refusal}
use Rattle.bits.proofs.Refused.{not_zero}
use Rattle.bits.proofs.Answer.{by-test, by-test-refused}
use Rattle.bits.proofs.Tests.{both_true, either_way}
use Rattle.reel.specs.Header.{most_superframes}
use Rattle.reel.specs.Run.{superframe_bytes, count_of, is_run, superframe, run_of, part_number}

pub empty-run : (is_run [] ≡ true) × (part_number [] 1 ≡ 2)
unfolding is_run part_number
empty-run = (refl, refl)

pub run-lengths : (bytes : List ℕ) → is_run bytes ≡ true → (length bytes ≡ superframe_bytes * count_of bytes) × (count_of bytes ≤ most_superframes)
unfolding is_run
run-lengths bytes e =
    let both = both_true (eqb (length bytes % superframe_bytes) 0) (leb (count_of bytes) most_superframes) e in
    let whole : length bytes % superframe_bytes ≡ 0 = eqb-true (length bytes % superframe_bytes) 0 both.0 in
    (omega arith, leb-true (count_of bytes) most_superframes both.1)

pub run-of-length : (bytes : List ℕ) (n : ℕ) → length bytes ≡ superframe_bytes * n → n ≤ most_superframes → is_run bytes ≡ true
unfolding is_run
run-of-length bytes n e h =
    let count : count_of bytes ≡ n = ap (λ (m : ℕ). m / superframe_bytes) e ∙ omega arith in
    rw (eq-eqb (length bytes % superframe_bytes) 0 (omega arith), le-leb (count_of bytes) most_superframes (omega arith))

-- what counting answers tells whether there is a run, and how long it is
pub run-counted : (bytes : List ℕ) (n : ℕ) → accepted (n ∷ []) ≡ run_of bytes → (is_run bytes ≡ true) × (count_of bytes ≡ n)
unfolding run_of
run-counted bytes n e = let way = by-test (is_run bytes) 0 (sym e) in (way.0, ap (λ (l : List ℕ). get_or l 0 0) way.1)

pub no_run : (bytes : List ℕ) → refused 1 ≡ run_of bytes → is_run bytes ≡ false
unfolding run_of
no_run bytes e = by-test-refused (is_run bytes) (count_of bytes ∷ []) 1 0 (sym e)

-- a number that is 1, 2 or 0 by two tests
number-zero : (a b : Bool) → ◌≡◌ {A = ℕ} (cond a (cond b 0 2) 1) 0 → (a ≡ true) × (b ≡ true)
number-zero true true e = (refl, refl)
number-zero true false e = absurd (suc-ne-zero 1 e)
number-zero false b e = absurd (suc-ne-zero 0 e)

-- asking for superframe k: the way to each number, and what number 0 says
module _ (run : List ℕ) (k : ℕ) where
  pub part-inside : is_run run ≡ true → 1 ≤ k → k ≤ count_of run → 0 ≡ part_number run k
  unfolding part_number
  part-inside e h l = rw (e, le-leb 1 k h, le-leb k (count_of run) l)

  pub part-before : is_run run ≡ true → k < 1 → 2 ≡ part_number run k
  unfolding part_number
  part-before e h = rw (e, lt-leb 1 k h)

  pub part-behind : is_run run ≡ true → 1 ≤ k → count_of run < k → 2 ≡ part_number run k
  unfolding part_number
  part-behind e h l = rw (e, le-leb 1 k h, lt-leb k (count_of run) l)

  pub part-no-run : is_run run ≡ false → 1 ≡ part_number run k
  unfolding part_number
  part-no-run e = rw e

  -- what counting is refused for, asking is refused for
  pub part-refused : (r : Refusal) → refused (number_of r) ≡ run_of run → number_of r ≡ part_number run k
  unfolding run_of
  part-refused r e =
      let number : number_of r ≡ (run_of run).number = ap (λ (a : Answer ℕ). a.number) e in
      either_way (is_run run) (λ t. absurd (not_zero r (number ∙ rw t refl))) (λ t. number ∙ rw t refl ∙ part-no-run t)

  pub part-there : part_number run k ≡ 0 → (is_run run ≡ true) × (1 ≤ k) × (k ≤ count_of run)
  unfolding part_number
  part-there e =
      let ways = number-zero (is_run run) (leb 1 k && leb k (count_of run)) e in
      let both = both_true (leb 1 k) (leb k (count_of run)) ways.1 in
      (ways.0, leb-true 1 k both.0, leb-true k (count_of run) both.1)

-- ---- the superframes of a run
pub length-superframe : (run : List ℕ) (k : ℕ) → 1 ≤ k → k ≤ count_of run → length (superframe run k) ≡ superframe_bytes
unfolding superframe
length-superframe run k h l = rw (length-take, length-drop) (omega arith)

-- the first n superframes, one behind the other
unfoldable pub first_of : List ℕ → ℕ → List ℕ
first_of run zero = []
first_of run (suc n) = first_of run n ++ superframe run (suc n)

first_taken : (run : List ℕ) (n : ℕ) → first_of run n ≡ take (n * superframe_bytes) run
unfolding first_of superframe
first_taken run zero = refl
first_taken run (suc n) =
    let more : suc n * superframe_bytes ≡ n * superframe_bytes + superframe_bytes = omega arith in
    let back : suc n - 1 ≡ n = omega arith in
    rw (more, back, take-add (n * superframe_bytes) superframe_bytes run, first_taken run n)

pub superframes-whole : (run : List ℕ) → is_run run ≡ true → first_of run (count_of run) ≡ run
superframes-whole run e =
    let size = (run-lengths run e).0 in
    first_taken run (count_of run) ∙ take_all (count_of run * superframe_bytes) run (omega arith)
