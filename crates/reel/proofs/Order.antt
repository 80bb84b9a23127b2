-- The order of refusals of asking for a superframe, and what a refusal hands back (document 01, "Numbers given").
--     Whole run          the bytes are a run: whole superframes, at most 1,000,000
--     There run k        it has a superframe k, counted from 1
--     part-order         THE ORDER: 1 where there is no run, then 2 where it has no superframe k
--     refusal-empty      "a refusal hands back an empty part"
-- Assumes nothing.
use mathlib.Core.Path.{◌≡◌, refl}
use mathlib.Core.Bool.{◌&&◌}
use mathlib.Core.Logic.{◌≢◌}
use mathlib.Core.List.{List, []}
use Prim.Native.Nat.{ℕ, ◌*◌, ◌≤◌}
use native.Mathlib.Omega.{arith}
use borrow.Author.Tests.{leb-true, le-leb, ne_eqb}
use lib.Dec.{leb}
use lib.ListN.{length}
use Rattle.bits.specs.Order.{Refused, Accepted}
use Rattle.bits.proofs.Tests.{both_true}
use Rattle.bits.proofs.Order.{Tells, tells-not, tested}
use Rattle.reel.specs.Run.{count_of, is_run, part_number, part_of}
use Rattle.reel.proofs.Run.{run-lengths, run-of-length}

abbrev pub Whole : List ℕ → Type 0
Whole run = (n : ℕ) × ((n ≤ 1_000_000) × (length run ≡ 5_120 * n))

abbrev pub There : List ℕ → ℕ → Type 0
There run k = (1 ≤ k) × (5_120 * k ≤ length run)

module _ (run : List ℕ) (k : ℕ) where
  tells-run : Tells (Whole run → ⊥) (is_run run)
  tells-run =
      tells-not (is_run run) (λ t. let whole = run-lengths run t in (count_of run, (whole.1, whole.0)))
      (λ w. run-of-length run w.0 w.1.1 w.1.0)

  tells-there : Tells (There run k → ⊥) (leb 1 k && leb k (count_of run))
  tells-there =
      tells-not (leb 1 k && leb k (count_of run))
      (λ t. let both = both_true (leb 1 k) (leb k (count_of run)) t in
      let first : 1 ≤ k = leb-true 1 k both.0 in
      let last : k ≤ count_of run = leb-true k (count_of run) both.1 in
      (first, omega arith))
      (λ h. rw (le-leb 1 k h.0, le-leb k (count_of run) (let fits = h.1 in omega arith)))

  pub part-order : Refused (Whole run → ⊥) 1 (Refused (There run k → ⊥) 2 Accepted) (part_number run k)
  unfolding part_number
  part-order = tested _ _ tells-run (tested _ _ tells-there refl)

  pub refusal-empty : part_number run k ≢ 0 → part_of run k ≡ []
  unfolding part_of
  refusal-empty refused = rw (ne_eqb (part_number run k) 0 refused)
