-- The totals after a reel's superframes are what document 01 says of them.
--     totals-counted    after at most 1,000,000 superframes, one step each: the six totals are those counted
--     listed-ordinary   a superframe that was taken at either radius adds to the listing what its ordinary readings are
--     blocks-counted    the blocks that are clean, mended and bad are 512 for each superframe that was not lost
-- Assumes nothing.
use mathlib.Core.Path.{◌≡◌, refl, ap, ◌∙◌}
use mathlib.Core.List.{List, [], ◌∷◌}
use Prim.Native.Nat.{ℕ, suc, ◌+◌, ◌*◌, ◌-◌, ◌^◌, ◌≤◌}
use native.Mathlib.Nat.{min-eq_left}
use native.Mathlib.Omega.{arith}
use borrow.Author.Tests.{eq-eqb, eqb-true}
use lib.Dec.{eqb}
use lib.ListN.{length}
use Rattle.std.specs.Result.{result_unwrap_or}
use Rattle.std.specs.declared.result.Result.{Result}
use Rattle.bits.specs.declared.refusal.Refusal.{Refusal}
use Rattle.bits.specs.Table.{total}
use Rattle.bits.proofs.Tests.{either_way}
use Rattle.reel.specs.Header.{most_superframes}
use Rattle.reading.specs.Reading.{ordinary}
use Rattle.tape.specs.Tape.{synced, kind_in, blocks_of, no_blocks, counted_with, syncs_added, syncs_of, counts_of}
use Rattle.tally.specs.Totals.{grown, sum_of, no_totals, with_counted, added_to, step_of, listed_with, stepped, totals_from, totals_of}
use Rattle.tally.specs.Reel.{is_lost, sync_in, blocks_with, counted, Superframes}
use Rattle.tape.proofs.Wrong.{wrong-most}
use Rattle.tape.specs.declared.blocks.Counted.{Counted}
use Rattle.tally.specs.declared.Totals.{Totals}
use Rattle.tally.proofs.Order.{tallied-sum}
use Rattle.tally.proofs.Whole.{blocks-whole}

-- two sets of totals, added
abbrev added : Totals → Totals → Totals
added t u =
    record {
      superframes = t.superframes + u.superframes;
      lost = t.lost + u.lost;
      wrong = t.wrong + u.wrong;
      clean = t.clean + u.clean;
      mended = t.mended + u.mended;
      bad = t.bad + u.bad;
    }

-- what one superframe brings
abbrev one : List ℕ → Totals
one sf = record { superframes = 1; lost = is_lost sf; wrong = sync_in sf; clean = blocks_with 0 sf; mended = blocks_with 1 sf; bad = blocks_with 2 sf }

-- no total passes the largest number of 64 bits within n superframes more
record Room (t : Totals) (n : ℕ) : Type 0 where
  superframes : t.superframes + 512 * n ≤ 2 ^ 64 - 1
  lost : t.lost + 512 * n ≤ 2 ^ 64 - 1
  wrong : t.wrong + 512 * n ≤ 2 ^ 64 - 1
  clean : t.clean + 512 * n ≤ 2 ^ 64 - 1
  mended : t.mended + 512 * n ≤ 2 ^ 64 - 1
  bad : t.bad + 512 * n ≤ 2 ^ 64 - 1

grown-room : (a b n : ℕ) → a + 512 * suc n ≤ 2 ^ 64 - 1 → b ≤ 512 → grown a b ≡ a + b
unfolding grown
grown-room a b n h l = min-eq_left (omega (arith, h, l))

same-totals : (a b w c d e a' b' w' c' d' e' : ℕ) → a ≡ a' → b ≡ b' → w ≡ w' → c ≡ c' → d ≡ d' → e ≡ e' →
    ◌≡◌ {A = Totals}
    (record { superframes = a; lost = b; wrong = w; clean = c; mended = d; bad = e })
    (record { superframes = a'; lost = b'; wrong = w'; clean = c'; mended = d'; bad = e' })
same-totals a b w c d e a' b' w' c' d' e' p q v r s t = rw (p, q, v, r, s, t) refl

with_one : (t : Totals) (sf : List ℕ) → length sf ≡ 5120 →
    result_unwrap_or (added_to t (counts_of sf)) t ≡
    record {
      superframes = grown t.superframes 1;
      lost = grown t.lost (is_lost sf);
      wrong = grown t.wrong (sync_in sf);
      clean = grown t.clean (blocks_with 0 sf);
      mended = grown t.mended (blocks_with 1 sf);
      bad = grown t.bad (blocks_with 2 sf);
    }
unfolding added_to with_counted counts_of syncs_of syncs_added is_lost sync_in blocks_with blocks_of kind_in no_blocks sum_of
with_one t sf l =
    rw (eq-eqb (length sf) 5120 l)
    (either_way (synced sf)
    (λ e. rw e
    (same-totals _ _ _ _ _ _ _ _ _ _ _ _ refl refl refl
    (ap (grown t.clean) (tallied-sum 0 sf))
    (ap (grown t.mended) (tallied-sum 1 sf))
    (ap (grown t.bad) (tallied-sum 2 sf))))
    (λ e. rw e refl))

sync-small : (sf : List ℕ) → sync_in sf ≤ 512
unfolding sync_in
sync-small sf = either_way (synced sf) (λ e. let most = wrong-most sf e in rw e (omega (arith, most))) (λ e. rw e (omega arith))

step-adds : (t : Totals) (sf : List ℕ) (n : ℕ) → length sf ≡ 5120 → Room t (suc n) → stepped t sf ≡ added t (one sf)
unfolding step_of
step-adds t sf n l r =
    let w = blocks-whole sf in
    with_one t sf l
    ∙ rw (
      grown-room t.superframes 1 n r.superframes (omega arith),
      grown-room t.lost (is_lost sf) n r.lost (omega (arith, w)),
      grown-room t.wrong (sync_in sf) n r.wrong (sync-small sf),
      grown-room t.clean (blocks_with 0 sf) n r.clean (omega (arith, w)),
      grown-room t.mended (blocks_with 1 sf) n r.mended (omega (arith, w)),
      grown-room t.bad (blocks_with 2 sf) n r.bad (omega (arith, w)),
    ) refl

room-left : (t : Totals) (sf : List ℕ) (n : ℕ) → Room t (suc n) → Room (added t (one sf)) n
room-left t sf n r =
    let w = blocks-whole sf in
    record {
      superframes = omega (arith, r.superframes);
      lost = omega (arith, r.lost, w);
      wrong = omega (arith, r.wrong, sync-small sf);
      clean = omega (arith, r.clean, w);
      mended = omega (arith, r.mended, w);
      bad = omega (arith, r.bad, w);
    }

from-counted : (t : Totals) (sfs : List (List ℕ)) → Superframes sfs → Room t (length sfs) → totals_from t sfs ≡ added t (counted sfs)
unfolding totals_from counted total Superframes
from-counted t [] l r = same-totals _ _ _ _ _ _ _ _ _ _ _ _ (omega arith) (omega arith) (omega arith) (omega arith) (omega arith) (omega arith)
from-counted t (sf ∷ sfs) l r =
    ap (λ (u : Totals). totals_from u sfs) (step-adds t sf (length sfs) l.0 r)
    ∙ from-counted (added t (one sf)) sfs l.1 (room-left t sf (length sfs) r)
    ∙ same-totals _ _ _ _ _ _ _ _ _ _ _ _ (omega arith) (omega arith) (omega arith) (omega arith) (omega arith) (omega arith)

pub totals-counted : (sfs : List (List ℕ)) → Superframes sfs → length sfs ≤ most_superframes → totals_of sfs ≡ counted sfs
unfolding no_totals counted
totals-counted sfs l h =
    from-counted no_totals sfs l
    (record { superframes = omega (arith, h); lost = omega (arith, h); wrong = omega (arith, h); clean = omega (arith, h); mended = omega (arith, h); bad = omega (arith, h) })
    ∙ same-totals _ _ _ _ _ _ _ _ _ _ _ _ (omega arith) (omega arith) (omega arith) (omega arith) (omega arith) (omega arith)

pub blocks-counted : (sfs : List (List ℕ)) →
    512 * total is_lost sfs + (total (blocks_with 0) sfs + (total (blocks_with 1) sfs + total (blocks_with 2) sfs)) ≡ 512 * length sfs
unfolding total
blocks-counted [] = refl
blocks-counted (sf ∷ sfs) = let h = blocks-counted sfs in let w = blocks-whole sf in omega (arith, h, w)

pub listed-ordinary : (t : Totals) (radius : ℕ) (c : Result Counted Refusal) (sf : List ℕ) → c ≡ counted_with radius (syncs_of sf) sf → listed_with t radius c sf ≡ step_of t sf
unfolding listed_with step_of counts_of
listed-ordinary t radius c sf e =
    either_way (eqb radius ordinary)
    (λ u. rw u (ap (added_to t) (e ∙ ap (λ (r : ℕ). counted_with r (syncs_of sf) sf) (eqb-true radius ordinary u))))
    (λ u. rw u)
