-- What a superframe adds to the totals, in document 02's words.
--     added-there, added-at     to the blocks of programme q, from 0 and from 1, those of its position
--     taken-adds, lost-adds     a superframe that is taken, and one that is lost
-- Assumes nothing.
use mathlib.Core.Path.{◌≡◌, refl, ap, ◌∙◌}
use mathlib.Core.List.{List}
use Prim.Native.Nat.{ℕ, ◌+◌, ◌-◌, ◌*◌, ◌/◌, ◌<◌, ◌≤◌}
use native.Mathlib.Omega.{arith}
use lib.ListN.{get_or}
use Rattle.bits.proofs.Table.{get_or-tab}
use Rattle.tape.specs.Document.{entry}
use Rattle.tape.specs.declared.blocks.Blocks.{Blocks}
use Rattle.running.specs.Running.{added_to, with_taken, with_lost}
use Rattle.running.specs.Document.{AddedFor, TakenAdds, LostAdds}
use Rattle.running.specs.declared.Running.{Running}

pub added-there : (old counts : List ℕ) (q : ℕ) → q < 16 → get_or (added_to old counts) q 0 ≡ get_or old q 0 + get_or counts (q / 2) 0
unfolding added_to
added-there old counts q l = get_or-tab 16 (λ (q : ℕ). get_or old q 0 + get_or counts (q / 2) 0) q 0 l

pub added-at : (old counts : List ℕ) (q : ℕ) → 1 ≤ q → q ≤ 16 → entry (added_to old counts) q 0 ≡ entry old q 0 + get_or counts ((q - 1) / 2) 0
added-at old counts q low high = added-there old counts (q - 1) (omega arith)

-- programme q, from 1, is one of position b, from 1
of-position : (old counts : List ℕ) (q b : ℕ) → 1 ≤ q → q ≤ 16 → (q - 1) / 2 ≡ b - 1 → entry (added_to old counts) q 0 ≡ entry old q 0 + entry counts b 0
of-position old counts q b low high at = added-at old counts q low high ∙ ap (λ (p : ℕ). entry old q 0 + get_or counts p 0) at

pub added-for : (old counts : List ℕ) → AddedFor old counts (added_to old counts)
added-for old counts =
    record {
      first = λ b l h. of-position old counts (2 * b - 1) b (omega arith) (omega arith) (omega arith);
      second = λ b l h. of-position old counts (2 * b) b (omega arith) (omega arith) (omega arith);
    }

pub taken-adds : (t : Running) (b : Blocks) → TakenAdds t b (with_taken t b)
unfolding with_taken
taken-adds t b =
    record {
      taken = refl;
      lost = refl;
      clean = added-for t.clean b.clean;
      mended = added-for t.mended b.mended;
      bad = added-for t.bad b.bad;
    }

pub lost-adds : (t : Running) → LostAdds t (with_lost t)
unfolding with_lost
lost-adds t = record { lost = refl; taken = refl; clean = refl; mended = refl; bad = refl }
