-- The totals of a listing (document 01, "Reel file and listing").
--     grown total by        a total and what is added; it stops at the largest number of 64 bits
--     sum_of l               the sum of some numbers
--     no_totals              before the first superframe
--     with_counted t c       after one superframe more, by what was counted in it: it is read, perhaps lost, bits of its syncs are wrong, and its blocks are
--                           clean, mended or bad
--     added_to t c           what is answered: the totals with it, where it was counted or is a lost one, or what it was refused for
--     step_of t sf           the same for a superframe by its bytes
--     stepped t sf          the totals after it: those before it where it is refused
--     listed_with t radius c sf      the same for a superframe that was taken at a radius, with c counted there: that, at the ordinary one, and else by its bytes
--     totals_of sfs          after all of some superframes, in order
use Rattle.std.specs.Prelude.{ℕ, ◌+◌, ◌-◌, ◌^◌, min, cond, List, [], ◌∷◌, eqb}
use Rattle.std.specs.Result.{result_unwrap_or}
use Rattle.std.specs.declared.result.Result.{Result}
use Rattle.std.specs.declared.result.Result.TheVariants.{Ok, Err}
use Rattle.bits.specs.Refused.{number_of, number_in}
use Rattle.bits.specs.declared.refusal.Refusal.{Refusal}
use Rattle.reading.specs.Reading.{ordinary}
use Rattle.tape.specs.Tape.{wrong_told, blocks_told, counts_of}
use Rattle.tape.specs.declared.blocks.Counted.{Counted}
use Rattle.tally.specs.declared.Totals.{Totals}

unfoldable pub grown : ℕ → ℕ → ℕ
grown total by = min (total + by) (2 ^ 64 - 1)

unfoldable pub sum_of : List ℕ → ℕ
sum_of [] = 0
sum_of (n ∷ l) = n + sum_of l

unfoldable pub no_totals : Totals
no_totals = record { superframes = 0; lost = 0; wrong = 0; clean = 0; mended = 0; bad = 0 }

-- a lost superframe has no wrong bit and no block that counts
unfoldable pub with_counted : Totals → Result Counted Refusal → Totals
with_counted t c =
    record {
      superframes = grown t.superframes 1;
      lost = grown t.lost (cond (eqb (number_in c) 3) 1 0);
      wrong = grown t.wrong (wrong_told c);
      clean = grown t.clean (sum_of (blocks_told c).clean);
      mended = grown t.mended (sum_of (blocks_told c).mended);
      bad = grown t.bad (sum_of (blocks_told c).bad);
    }

unfoldable pub added_to : Totals → Result Counted Refusal → Result Totals Refusal
added_to t (Ok c) = Ok (with_counted t (Ok c))
added_to t (Err e) = cond (eqb (number_of e) 3) (Ok (with_counted t (Err e))) (Err e)

unfoldable pub step_of : Totals → List ℕ → Result Totals Refusal
step_of t sf = added_to t (counts_of sf)

unfoldable pub listed_with : Totals → ℕ → Result Counted Refusal → List ℕ → Result Totals Refusal
listed_with t radius c sf = cond (eqb radius ordinary) (added_to t c) (step_of t sf)

abbrev pub stepped : Totals → List ℕ → Totals
stepped t sf = result_unwrap_or (step_of t sf) t

unfoldable pub totals_from : Totals → List (List ℕ) → Totals
totals_from t [] = t
totals_from t (sf ∷ sfs) = totals_from (stepped t sf) sfs

abbrev pub totals_of : List (List ℕ) → Totals
totals_of sfs = totals_from no_totals sfs
