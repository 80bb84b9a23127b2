-- What document 02, P4 asks of reading scale words, in its own words.
--     reads-nearest, nearest-reads    THE THEOREM: factors come out with n exactly where their word, sent three times, differs from the 42 bits in n places and
--                                    that of any other factors in more
--     five-tie, tie-five             and number 5 comes out exactly where two or more are equally near and none is nearer
--     nearest-or-tie                 there is no third case
--     fifteen-apart                  words sent three times are 15 apart
--     seven-back                     THE THEOREM: any factors with at most seven of the 42 bits wrong come back as sent, with that number
--     near-back                      the same of any 42 bits
--     written_back                   what `scale::write` answers, sent three times, is read as what it was given
-- Assumes nothing.
use mathlib.Core.Path.{◌≡◌, refl, sym, ap, ap₂, ◌∙◌}
use mathlib.Core.Logic.{◌⊎◌, inl, inr, ⊎_elim}
use mathlib.Core.Bool.{true}
use mathlib.Core.List.{List, [], ◌∷◌, ◌++◌}
use Prim.Native.Nat.{ℕ, ◌+◌, ◌*◌, ◌/◌, ◌%◌, ◌≤◌, ◌<◌}
use native.Mathlib.Omega.{arith}
use borrow.Author.Tests.{le-leb}
use lib.ListN.{length}
use Rattle.std.specs.declared.result.Result.TheVariants.{Ok}
use Rattle.bits.specs.Answer.{accepted, refused}
use Rattle.bits.specs.Bits.{ones, are_bits}
use Rattle.bits.proofs.Answer.{accepted-same, never_both}
use Rattle.bits.proofs.Bits.{below-bits}
use Rattle.bits.proofs.Digits.{below-append}
use Rattle.remainder.specs.Polynomial.{◌⊕◌}
use Rattle.remainder.proofs.Sum.{length-⊕}
use Rattle.code.specs.Words.{distance}
use Rattle.code.proofs.Distance.{distance_self, distance-changed}
use Rattle.scale.specs.Word.{scale_word, written_scale}
use Rattle.scale.proofs.Word.{below-scale_word}
use Rattle.nearest.specs.Reading.{away, read_scale, scale_answer}
use Rattle.nearest.specs.Document.{sent, differs, Other, Nearest, Tie}
use Rattle.nearest.proofs.Fewest.{Single, Shared, single-read, shared-read}
use Rattle.nearest.proofs.Search.{single-or-shared}
use Rattle.nearest.proofs.Thrice.{length-thrice, fifteen, near-seven}

-- ---- factors and pairs
left-of : (l r : ℕ) → r ≤ 7 → (l * 8 + r) / 8 ≡ l
left-of l r h = omega arith

right_of : (l r : ℕ) → r ≤ 7 → (l * 8 + r) % 8 ≡ r
right_of l r h = omega arith

away_of : (bits : List ℕ) (l r : ℕ) → r ≤ 7 → away bits (l * 8 + r) ≡ differs l r bits
unfolding away
away_of bits l r h = rw (left-of l r h, right_of l r h)

pair-away : (bits : List ℕ) (n : ℕ) → away bits n ≡ differs (n / 8) (n % 8) bits
unfolding away
pair-away bits n = refl

answer-of : (l r d : ℕ) → r ≤ 7 → accepted ((l * 8 + r) / 8 ∷ (l * 8 + r) % 8 ∷ d ∷ []) ≡ accepted (l ∷ r ∷ d ∷ [])
answer-of l r d h = ap₂ (λ (a b : ℕ). accepted (a ∷ b ∷ d ∷ [])) (left-of l r h) (right_of l r h)

module _ (bits : List ℕ) where
  nearest-single : (l r n : ℕ) → Nearest l r n bits → Single bits (l * 8 + r)
  nearest-single l r n h =
      let left = h.left in
      let right = h.right in
      record {
        within = omega arith;
        nearer = λ m k o.
            let more : n < differs (m / 8) (m % 8) bits = h.others (m / 8) (m % 8) (omega arith) (omega arith) (λ e. o (let a = e.0 in let b = e.1 in omega arith)) in
            let is : away bits (l * 8 + r) ≡ n = away_of bits l r right ∙ h.places in
            let their : away bits m ≡ differs (m / 8) (m % 8) bits = pair-away bits m in
            omega arith;
      }

  single-nearest : (n : ℕ) → Single bits n → Nearest (n / 8) (n % 8) (away bits n) bits
  single-nearest n h =
      let within = h.within in
      record {
        left = omega arith;
        right = omega arith;
        places = sym (pair-away bits n);
        others = λ l r a b o.
            let less : away bits n < away bits (l * 8 + r) =
            h.nearer (l * 8 + r) (omega arith) (λ e. o (omega arith, omega arith)) in
            let their : away bits (l * 8 + r) ≡ differs l r bits = away_of bits l r b in
            omega arith;
      }

  tie-shared : Tie bits → Shared bits
  tie-shared t =
      let a = t.left in
      let b = t.right in
      let c = t.left' in
      let d = t.right' in
      let mine = away_of bits t.l t.r b in
      let their = away_of bits t.l' t.r' d in
      record {
        one = t.l * 8 + t.r;
        other = t.l' * 8 + t.r';
        one-within = omega arith;
        other-within = omega arith;
        differ = λ e. t.other (omega arith, omega arith);
        equal = their ∙ t.equal ∙ sym mine;
        none-nearer = λ m h.
            let low : differs t.l t.r bits ≤ differs (m / 8) (m % 8) bits = t.none-nearer (m / 8) (m % 8) (omega arith) (omega arith) in
            let is : away bits m ≡ differs (m / 8) (m % 8) bits = pair-away bits m in
            omega arith;
      }

  shared-tie : Shared bits → Tie bits
  shared-tie s =
      let a = s.one-within in
      let b = s.other-within in
      let mine = pair-away bits s.one in
      let their = pair-away bits s.other in
      record {
        l = s.one / 8;
        r = s.one % 8;
        l' = s.other / 8;
        r' = s.other % 8;
        left = omega arith;
        right = omega arith;
        left' = omega arith;
        right' = omega arith;
        other = λ e. s.differ (let p = e.0 in let q = e.1 in omega arith);
        equal = sym their ∙ s.equal ∙ mine;
        none-nearer = λ l r h k.
            let low : away bits s.one ≤ away bits (l * 8 + r) = s.none-nearer (l * 8 + r) (omega arith) in
            let is : away bits (l * 8 + r) ≡ differs l r bits = away_of bits l r k in
            omega arith;
      }

  pub nearest-or-tie : ((l : ℕ) × ((r : ℕ) × ((n : ℕ) × Nearest l r n bits))) ⊎ Tie bits
  nearest-or-tie =
      ⊎_elim (λ s. inl (s.0 / 8, (s.0 % 8, (away bits s.0, single-nearest s.0 s.1)))) (λ t. inr (shared-tie t)) (single-or-shared bits)

  -- ---- what comes out
  pub nearest-reads : (l r n : ℕ) → Nearest l r n bits → read_scale bits ≡ accepted (l ∷ r ∷ n ∷ [])
  nearest-reads l r n h =
      single-read bits (l * 8 + r) (nearest-single l r n h)
      ∙ ap (λ (d : ℕ). accepted ((l * 8 + r) / 8 ∷ (l * 8 + r) % 8 ∷ d ∷ [])) (away_of bits l r h.right ∙ h.places)
      ∙ answer-of l r n h.right

  pub tie-five : Tie bits → read_scale bits ≡ refused 5
  tie-five t = shared-read bits (tie-shared t)

  pub reads-nearest : (l r n : ℕ) → read_scale bits ≡ accepted (l ∷ r ∷ n ∷ []) → Nearest l r n bits
  reads-nearest l r n e =
      ⊎_elim
      (λ s.
      let same : s.0 / 8 ∷ s.0 % 8 ∷ away bits s.0 ∷ [] ≡ l ∷ r ∷ n ∷ [] = accepted-same (sym (single-read bits s.0 s.1) ∙ e) in
      let left : l ≡ s.0 / 8 = cc in
      let right : r ≡ s.0 % 8 = cc in
      let places : n ≡ away bits s.0 = cc in
      rw (left, right, places) (single-nearest s.0 s.1))
      (λ t. absurd (never_both 4 (sym (shared-read bits t) ∙ e)))
      (single-or-shared bits)

  pub five-tie : read_scale bits ≡ refused 5 → Tie bits
  five-tie e = ⊎_elim (λ s. absurd (never_both 4 (sym e ∙ single-read bits s.0 s.1))) shared-tie (single-or-shared bits)

pub fifteen-apart : (l r l' r' : ℕ) → l ≤ 7 → r ≤ 7 → l' ≤ 7 → r' ≤ 7 → Other l r l' r' → 15 ≤ distance (sent l r) (sent l' r')
fifteen-apart l r l' r' a b c d o =
    let apart = fifteen (l * 8 + r) (l' * 8 + r') (omega arith) (omega arith) (λ e. o (omega arith, omega arith)) in
    rw (left-of l r b, right_of l r b, left-of l' r' d, right_of l' r' d) at apart

-- ---- what was sent comes back
module _ (l r : ℕ) (h : l ≤ 7) (k : r ≤ 7) where
  length-sent : length (sent l r) ≡ 42
  length-sent = rw (left-of l r k, right_of l r k) at (length-thrice (l * 8 + r))

  pub near-back : (bits : List ℕ) → length bits ≡ 42 → differs l r bits ≤ 7 → read_scale bits ≡ accepted (l ∷ r ∷ differs l r bits ∷ [])
  near-back bits size few =
      let is : away bits (l * 8 + r) ≡ differs l r bits = away_of bits l r k in
      single-read bits (l * 8 + r) (near-seven bits size (l * 8 + r) (omega arith) (omega arith))
      ∙ ap (λ (d : ℕ). accepted ((l * 8 + r) / 8 ∷ (l * 8 + r) % 8 ∷ d ∷ [])) is
      ∙ answer-of l r (differs l r bits) k

  pub seven-back : (mask : List ℕ) → length mask ≡ 42 → ones mask ≤ 7 → read_scale (sent l r ⊕ mask) ≡ accepted (l ∷ r ∷ ones mask ∷ [])
  seven-back mask size few =
      let same = length-sent ∙ sym size in
      let is : differs l r (sent l r ⊕ mask) ≡ ones mask = distance-changed (sent l r) mask same in
      near-back (sent l r ⊕ mask) (length-⊕ (sent l r) mask same ∙ length-sent) (omega arith)
      ∙ ap (λ (d : ℕ). accepted (l ∷ r ∷ d ∷ [])) is

  pub written_back : (w : List ℕ) × ((written_scale l r ≡ Ok w) × (scale_answer (w ++ (w ++ w)) ≡ accepted (l ∷ r ∷ 0 ∷ [])))
  unfolding written_scale scale_answer
  written_back =
      let w = scale_word l r in
      let b = below-scale_word l r in
      let all : are_bits (w ++ (w ++ w)) ≡ true = below-bits (w ++ (w ++ w)) (below-append 2 w (w ++ w) b (below-append 2 w w b b)) in
      let none : differs l r (sent l r) ≡ 0 = distance_self (sent l r) in
      (w, (rw (le-leb l 7 h, le-leb r 7 k), rw all (near-back (sent l r) length-sent (omega arith) ∙ ap (λ (d : ℕ). accepted (l ∷ r ∷ d ∷ [])) none)))
