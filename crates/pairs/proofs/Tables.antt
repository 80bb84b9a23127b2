-- What stands in the tables (document 02, P3: "a table of the remainders of all 1,953 pairs of places").
--     kept, kept-passed     the test of the index, computed over the whole table: each remainder stands where those with its upper eight digits do
--     pair-count            there are 1,953
--     At k, pair-at         entry k is what two places leave, and they stand beside it, the lower first
--     Stands s, pair-stands
--                           each pair of places has its entry, and it is where the index says
-- Assumes nothing.
use mathlib.Core.Path.{◌≡◌, sym, ap, ap₂, ◌∙◌, subst}
use mathlib.Core.Bool.{Bool, true, false, ◌&&◌}
use mathlib.Core.List.{List, [], ◌∷◌, map}
use Prim.Native.Nat.{ℕ, zero, suc, ◌+◌, ◌*◌, ◌/◌, ◌%◌, ◌^◌, ◌≤◌, ◌<◌}
use native.Mathlib.Nat.{zero-add, not-suc-le-zero, le_of_suc-le-suc}
use native.Mathlib.Omega.{arith}
use lib.Bits.{bit_xor}
use lib.Dec.{T, eqb, leb, ltb, eqb→eq, leb→le, ltb→lt}
use lib.ListN.{length, get_or, get_or-map, length-map}
use lib.Pow.{high, low}
use Rattle.bits.specs.Table.{tabulate}
use Rattle.bits.specs.Digits.{value}
use Rattle.remainder.specs.Polynomial.{◌⊕◌, times}
use Rattle.remainder.specs.Remainder.{take_off, step, divide, remainder}
use Rattle.remainder.specs.Columns.{column, columns}
use Rattle.remainder.proofs.Columns.{length-columns}
use Rattle.code.specs.Generators.{block_generator}
use Rattle.reading.specs.Wrong.{column_numbers}
use Rattle.reading.proofs.Wrong.{t}
use Rattle.pairs.specs.Order.{insert, grow, flat, in_order}
use Rattle.pairs.specs.Pairs.{key, with_others, keys_of, keys, pair_table, place_table, below, starts_of, start_table}
use Rattle.pairs.proofs.Values.{forced, forced-is, computed, computed-is}
use Rattle.pairs.proofs.Order.{place, at_place, order-in, in_order_lem}
use Rattle.pairs.proofs.Keys.{Pair, keys_in, in-keys}

-- ---- the computed tests
and_left : (a b : Bool) → T (a && b) → T a
and_left true b p = tt
and_left false b p = p

and_right : (a b : Bool) → T (a && b) → T b
and_right true b p = p
and_right false b p = absurd p

in_bucket : List ℕ → ℕ → ℕ → Bool
in_bucket starts k x = leb (get_or starts (x / 2 ^ 11) 0) k && ltb k (get_or starts (x / 2 ^ 11 + 1) 0)

kept : List ℕ → ℕ → List ℕ → Bool
kept starts k [] = eqb k 1953
kept starts k (x ∷ xs) = in_bucket starts k x && kept starts (suc k) xs

kept_at : (starts : List ℕ) (k : ℕ) (xs : List ℕ) (i : ℕ) → T (kept starts k xs) → i < length xs → T (in_bucket starts (k + i) (get_or xs i 0))
unfolding kept
kept_at starts k [] i p h = absurd (not-suc-le-zero h)
kept_at starts k (x ∷ xs) zero p h =
    let e : k ≡ k + zero = omega arith in
    subst (λ (n : ℕ). T (in_bucket starts n x)) e (and_left (in_bucket starts k x) (kept starts (suc k) xs) p)
kept_at starts k (x ∷ xs) (suc i) p h =
    let e : suc k + i ≡ k + suc i = omega arith in
    subst (λ (n : ℕ). T (in_bucket starts n (get_or xs i 0))) e
    (kept_at starts (suc k) xs i (and_right (in_bucket starts k x) (kept starts (suc k) xs) p) (le_of_suc-le-suc h))

kept-length : (starts : List ℕ) (k : ℕ) (xs : List ℕ) → T (kept starts k xs) → k + length xs ≡ 1953
unfolding kept
kept-length starts k [] p = let e : k ≡ 1953 = eqb→eq k 1953 p in omega arith
kept-length starts k (x ∷ xs) p = let e = kept-length starts (suc k) xs (and_right (in_bucket starts k x) (kept starts (suc k) xs) p) in omega arith

tested : List ℕ → Bool
tested cs = forced (map (λ x. x / 2 ^ 12) (keys cs)) (λ ps. forced (starts_of ps) (λ ss. kept ss 0 ps))

test : tested column_numbers ≡ true
unfolding tested kept in_bucket starts_of tabulate below keys keys_of with_others key in_order insert grow flat computed forced value columns column remainder divide step take_off times ◌⊕◌
test = sym (computed-is tested)

kept-passed : T (kept start_table 0 pair_table)
unfolding tested start_table pair_table
kept-passed =
    subst T
    (sym test
    ∙ forced-is pair_table (λ ps. forced (starts_of ps) (λ ss. kept ss 0 ps))
    ∙ forced-is (starts_of pair_table) (λ ss. kept ss 0 pair_table))
    tt

column-count : length column_numbers ≡ 63
unfolding column_numbers
column-count = length-map (columns block_generator 63) (value 2) ∙ length-columns block_generator 63

pub pair-count : length pair_table ≡ 1953
pair-count = let e = kept-length start_table 0 pair_table kept-passed in omega arith

key-count : length (keys column_numbers) ≡ 1953
unfolding pair_table
key-count = sym (length-map (keys column_numbers) (λ x. x / 2 ^ 12)) ∙ pair-count

-- ---- what stands in the tables
places-small : (i j : ℕ) → i < j → j < 63 → i * 2 ^ 6 + j < 2 ^ 12
places-small i j h l = omega arith

key-pair : (s i j : ℕ) → i < j → j < 63 → key s i j / 2 ^ 12 ≡ s
unfolding key
key-pair s i j h l = high s 12 (places-small i j h l)

key-places : (s i j : ℕ) → i < j → j < 63 → key s i j % 2 ^ 12 ≡ i * 2 ^ 6 + j
unfolding key
key-places s i j h l = low s 12 (places-small i j h l)

pub record At (k : ℕ) : Type 0 where
  pub one : ℕ
  pub other : ℕ
  pub apart : one < other
  pub within : other < 63
  pub leaves : get_or pair_table k 0 ≡ bit_xor (t one) (t other)
  pub places : get_or place_table k 0 ≡ one * 2 ^ 6 + other

pub pair-at : (k : ℕ) → k < 1953 → At k
unfolding pair_table place_table in_order keys
pair-at k h =
    record {
      one = p.one;
      other = p.other;
      apart = p.apart;
      within = w;
      leaves = get_or-map (λ x. x / 2 ^ 12) (keys column_numbers) k 0 ∙ ap (λ (x : ℕ). x / 2 ^ 12) p.is ∙ key-pair _ (0 + p.one) (0 + p.other) (omega (arith, p.apart)) (omega (arith, w));
      places = get_or-map (λ x. x % 2 ^ 12) (keys column_numbers) k 0 ∙ ap (λ (x : ℕ). x % 2 ^ 12) p.is ∙ key-places _ (0 + p.one) (0 + p.other) (omega (arith, p.apart)) (omega (arith, w))
          ∙ ap₂ (λ (i j : ℕ). i * 2 ^ 6 + j) (zero-add p.one) (zero-add p.other);
    }
  where
    p : Pair column_numbers 0 (get_or (keys column_numbers) k 0)
    p = in-keys 0 column_numbers (get_or (keys column_numbers) k 0) (in_order_lem _ (keys_of 0 column_numbers) (at_place (keys column_numbers) k (omega (arith, key-count))))

    w : p.other < 63
    w = omega (arith, p.within, column-count)

pub record Stands (s : ℕ) : Type 0 where
  pub at : ℕ
  pub leaves : get_or pair_table at 0 ≡ s
  pub within : at < length pair_table
  pub from : get_or start_table (s / 2 ^ 11) 0 ≤ at
  pub to : at < get_or start_table (s / 2 ^ 11 + 1) 0

pub pair-stands : (i j s : ℕ) → i < j → j < 63 → s ≡ bit_xor (t i) (t j) → Stands s
unfolding keys pair_table in_bucket
pair-stands i j s h l e =
    let all : List ℕ = keys_of 0 column_numbers in
    let given = place _ all (keys_in 0 column_numbers i j h (omega (arith, column-count))) in
    let there = place (get_or all given.0 0) (keys column_numbers) (order-in all given.0 given.1) in
    let k : ℕ = there.0 in
    let w : k < length pair_table = omega (arith, there.1, key-count, pair-count) in
    let leaves : get_or pair_table k 0 ≡ s =
    get_or-map (λ x. x / 2 ^ 12) (keys column_numbers) k 0 ∙ ap (λ (x : ℕ). x / 2 ^ 12) (there.2 ∙ given.2)
    ∙ key-pair _ (0 + i) (0 + j) (omega arith) (omega arith) ∙ sym e in
    let bucket : T (in_bucket start_table (0 + k) s) = subst (λ (x : ℕ). T (in_bucket start_table (0 + k) x)) leaves (kept_at start_table 0 pair_table k kept-passed w) in
    let from : ℕ = get_or start_table (s / 2 ^ 11) 0 in
    let to : ℕ = get_or start_table (s / 2 ^ 11 + 1) 0 in
    let after : from ≤ 0 + k = leb→le from (0 + k) (and_left (leb from (0 + k)) (ltb (0 + k) to) bucket) in
    let before : 0 + k < to = ltb→lt (0 + k) to (and_right (leb from (0 + k)) (ltb (0 + k) to) bucket) in
    record { at = k; leaves = leaves; within = w; from = omega (arith, after); to = omega (arith, before) }
