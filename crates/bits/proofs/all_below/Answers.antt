-- `bits::all_below` meets its contract. Assumes nothing.
use mathlib.Core.Path.{◌≡◌, sym}
use mathlib.Core.Bool.{Bool, true, false}
use mathlib.Core.List.{List}
use Prim.Native.Nat.{ℕ, ◌≤◌, ◌<◌}
use native.Mathlib.Omega.{arith}
use borrow.Author.Tests.{tests, lt-ltb, le-ltb}
use lib.Dec.{ltb}
use lib.ListN.{length}
use Rattle.std.proofs.Common.{rules}
use Rattle.std.proofs.lemmas.Iterator.{cases_from_all, YieldsList-from_slice}
use Rattle.std.specs.Bool.{MatchBool}
use Rattle.std.specs.List.{AllWithin, HoldsAt}
use Rattle.bits.specs.Bits.{all_below}
use Rattle.bits.proofs.Every.{each-every, every-fails}
use Rattle.bits.proofs.all_below.Goals as goal

by-case : (b : ℕ) (l : List ℕ) (r : Bool)
    → MatchBool r (AllWithin (λ x. x < b) l 0 (length l)) ((k : ℕ) × (k < length l) × HoldsAt (λ x. b ≤ x) l k) → r ≡ all_below b l
unfolding all_below
by-case b l true h = sym (each-every (λ x. ltb x b) l 0 (λ i w. lt-ltb _ b (h i 0 (omega arith) w)))
by-case b l false (k, w, h) = sym (every-fails (λ x. ltb x b) l k 0 w (le-ltb _ b (h 0)))

pub returns : goal.returns
returns c =
    by-case c.args.bound c.args.list.now _
    (cases_from_all _ _ _ (λ x. x < c.args.bound) (λ x. c.args.bound ≤ x) c.all.ensures.ran (YieldsList-from_slice c.args.list.now (search rules)) (λ x q k. search (rules, tests)) (λ x q k. search (rules, tests)))
