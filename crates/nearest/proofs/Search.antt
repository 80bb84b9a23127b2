-- The best of the pairs so far, as the code keeps it.
--     told_or, factors-told     what the code makes of it
--     start, step               of the first pair, and with one more
--     only-single, two-shared   what the best of all 64 says
--     holds-told                it reads as the definition says
--     single-or-shared          there is no third case
-- Assumes nothing.
use mathlib.Core.Path.{◌≡◌, refl, sym, ap, ◌∙◌}
use mathlib.Core.Logic.{◌⊎◌, inl, inr, ⊎_elim}
use mathlib.Core.List.{List, [], ◌∷◌}
use Prim.Native.Nat.{ℕ, zero, suc, ◌/◌, ◌%◌, ◌≤◌, ◌<◌}
use native.Mathlib.Nat.{le_of_suc-le-suc, eq-or-lt_of_le}
use native.Mathlib.Omega.{arith}
use borrow.Author.Tests.{eqb-true, eqb-false, ltb-true, ltb-false}
use lib.Dec.{eqb, ltb}
use Rattle.bits.specs.Answer.{accepted}
use Rattle.bits.proofs.Tests.{either_way}
use Rattle.std.specs.Option.{ok_or}
use Rattle.std.specs.declared.option.Option.{Option}
use Rattle.std.specs.declared.option.Option.TheVariants.{Some, None}
use Rattle.bits.specs.declared.refusal.Refusal.TheVariants.{Scale}
use Rattle.nearest.specs.Reading.{away, read_scale, factors_told}
use Rattle.nearest.specs.Extra.{factors_in}
use Rattle.nearest.specs.declared.Factors.{Factors}
use Rattle.nearest.specs.Search.{better_of, Only, Two, Found, Holds, only_told, best_told, nearest_told}
use Rattle.nearest.specs.declared.Best.{Best}
use Rattle.nearest.proofs.Fewest.{Single, Shared, single-read, shared-read}

-- what the code makes of it tells what it reads as
pub told_or : (o : Option Factors) → factors_told (ok_or o Scale) ≡ nearest_told o
told_or (Some f) = refl
told_or None = refl

pub factors-told : (o : Option Factors) → factors_in (nearest_told o) ≡ o
factors-told (Some f) = refl
factors-told None = refl

module _ (bits : List ℕ) where
  -- ---- the best so far
  pub start : (d : ℕ) → d ≡ away bits 0 → Holds bits 1 (record { places = d; only = Some 0 })
  start d e =
      record {
        low = λ m h. let z : m ≡ 0 = omega arith in rw (z, e) (omega arith);
        found = record { within = omega arith; is = sym e; alone = λ m h a. omega arith };
      }

  module _ (k d : ℕ) where
    -- one pair more that differs in as many places
    both : (o : Option ℕ) → Found bits k d o → away bits k ≡ d → Two bits (suc k) d
    both (Some n) f e =
        record {
          one = n;
          other = k;
          one-within = omega (arith, f.within);
          other-within = omega arith;
          differ = λ q. let w : n < k = f.within in omega arith;
          one-is = f.is;
          other-is = e;
        }
    both None f e =
        record {
          one = f.one;
          other = f.other;
          one-within = omega (arith, f.one-within);
          other-within = omega (arith, f.other-within);
          differ = f.differ;
          one-is = f.one-is;
          other-is = f.other-is;
        }

    -- and one that differs in more
    stays : (o : Option ℕ) → Found bits k d o → d < away bits k → Found bits (suc k) d o
    stays (Some n) f l =
        record {
          within = omega (arith, f.within);
          is = f.is;
          alone = λ m b e.
              ⊎_elim
              (λ q. let same : away bits k ≡ d = ap (away bits) (sym q) ∙ e in absurd (omega arith))
              (λ w. f.alone m w e)
              (eq-or-lt_of_le (le_of_suc-le-suc b));
        }
    stays None f l =
        record {
          one = f.one;
          other = f.other;
          one-within = omega (arith, f.one-within);
          other-within = omega (arith, f.other-within);
          differ = f.differ;
          one-is = f.one-is;
          other-is = f.other-is;
        }

  module _ (k : ℕ) (s : Best) (h : Holds bits k s) where
    nearer : away bits k < s.places → Holds bits (suc k) (record { places = away bits k; only = Some k })
    nearer l =
        record {
          low = λ m b. ⊎_elim (λ e. rw e (omega arith)) (λ w. let low : s.places ≤ away bits m = h.low m w in omega arith) (eq-or-lt_of_le (le_of_suc-le-suc b));
          found = record {
            within = omega arith;
            is = refl;
            alone = λ m b e.
                ⊎_elim (λ q. q) (λ w. let low : s.places ≤ away bits m = h.low m w in absurd (omega arith)) (eq-or-lt_of_le (le_of_suc-le-suc b));
          };
        }

    equal : away bits k ≡ s.places → Holds bits (suc k) (record { places = s.places; only = None })
    equal e =
        record {
          low = λ m b.
              ⊎_elim (λ q. let same : away bits m ≡ s.places = ap (away bits) q ∙ e in omega arith) (λ w. h.low m w) (eq-or-lt_of_le (le_of_suc-le-suc b));
          found = both k s.places s.only h.found e;
        }

    further : s.places < away bits k → Holds bits (suc k) s
    further l =
        record {
          low = λ m b. ⊎_elim (λ q. rw q (omega arith)) (λ w. h.low m w) (eq-or-lt_of_le (le_of_suc-le-suc b));
          found = stays k s.places s.only h.found l;
        }

    pub step : Holds bits (suc k) (better_of s k (away bits k))
    unfolding better_of
    step =
        either_way (ltb (away bits k) s.places)
        (λ t. rw t (nearer (ltb-true (away bits k) s.places t)))
        (λ t.
        let more : s.places ≤ away bits k = ltb-false (away bits k) s.places t in
        either_way (eqb (away bits k) s.places)
        (λ u. rw (t, u) (equal (eqb-true (away bits k) s.places u)))
        (λ u.
        rw (t, u)
        (further (⊎_elim (λ q. absurd (eqb-false (away bits k) s.places u (sym q))) (λ w. w) (eq-or-lt_of_le more)))))

  -- ---- of all 64
  module _ (d : ℕ) (low : (m : ℕ) → m < 64 → d ≤ away bits m) where
    only-single : (n : ℕ) → Only bits 64 d n → Single bits n
    only-single n f =
        record {
          within = f.within;
          nearer = λ m l o.
              let is : away bits n ≡ d = f.is in
              ⊎_elim (λ e. absurd (o (f.alone m l (sym e)))) (λ w. omega arith) (eq-or-lt_of_le (low m l));
        }

    two-shared : Two bits 64 d → Shared bits
    two-shared f =
        record {
          one = f.one;
          other = f.other;
          one-within = f.one-within;
          other-within = f.other-within;
          differ = f.differ;
          equal = f.other-is ∙ sym f.one-is;
          none-nearer = λ m l. let is : away bits f.one ≡ d = f.one-is in omega (arith, low m l);
        }

    found-told : (o : Option ℕ) → Found bits 64 d o → only_told d o ≡ read_scale bits
    found-told (Some n) f = ap (λ (p : ℕ). accepted (n / 8 ∷ n % 8 ∷ p ∷ [])) (sym f.is) ∙ sym (single-read bits n (only-single n f))
    found-told None f = sym (shared-read bits (two-shared f))

    found-either : (o : Option ℕ) → Found bits 64 d o → ((n : ℕ) × Single bits n) ⊎ Shared bits
    found-either (Some n) f = inl (n, only-single n f)
    found-either None f = inr (two-shared f)

  pub holds-told : (s : Best) → Holds bits 64 s → best_told s ≡ read_scale bits
  holds-told s h = found-told s.places h.low s.only h.found

  all_held : (k : ℕ) → (s : Best) × Holds bits (suc k) s
  all_held zero = (record { places = away bits 0; only = Some 0 }, start (away bits 0) refl)
  all_held (suc k) = let before = all_held k in (better_of before.0 (suc k) (away bits (suc k)), step (suc k) before.0 before.1)

  pub single-or-shared : ((n : ℕ) × Single bits n) ⊎ Shared bits
  single-or-shared = let s = all_held 63 in found-either s.0.places s.1.low s.0.only s.1.found
