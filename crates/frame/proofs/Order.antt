-- The order of refusals of reading a frame (document 01, "Numbers given": 1 for a length, then 3 for a sync; document 02, P1: "3 now means three or
-- more wrong bits; its place is the same"): `read-order`.
-- Assumes nothing.
use mathlib.Core.Path.{◌≡◌, refl}
use mathlib.Core.Bool.{Bool, true, false, cond}
use mathlib.Core.Logic.{◌≢◌}
use mathlib.Core.List.{List}
use Prim.Native.Nat.{ℕ, ◌≤◌}
use native.Mathlib.Omega.{arith}
use borrow.Author.Tests.{leb-true, leb-false}
use lib.Dec.{eqb, leb}
use lib.ListN.{length}
use Rattle.std.specs.declared.result.Result.{Result}
use Rattle.std.specs.declared.result.Result.TheVariants.{Err}
use Rattle.bits.specs.Refused.{number_in}
use Rattle.bits.specs.declared.refusal.Refusal.{Refusal}
use Rattle.bits.specs.declared.refusal.Refusal.TheVariants.{Length, Sync}
use Rattle.bits.specs.Order.{Refused, Accepted}
use Rattle.bits.proofs.Order.{Tells, tells-length, tested}
use Rattle.frame.specs.Read.{wrong_sync, most_wrong, service_read, blocks_in, found, read_frame}
use Rattle.frame.specs.declared.FrameRead.{FrameRead}
use Rattle.frame.specs.declared.Letter.{Letter}

-- the number of an answer that goes by two tests
numbered : (a b : Bool) (x y z : Result FrameRead Refusal) → number_in (cond a (cond b x y) z) ≡ cond a (cond b (number_in x) (number_in y)) (number_in z)
numbered true true x y z = refl
numbered true false x y z = refl
numbered false b x y z = refl

module _ (letter : Letter) (bytes : List ℕ) where
  tells-sync : Tells (3 ≤ wrong_sync letter bytes) (leb (wrong_sync letter bytes) most_wrong)
  tells-sync =
      record {
        there = λ e. leb-false (wrong_sync letter bytes) most_wrong e;
        away = λ e many. let few = leb-true (wrong_sync letter bytes) most_wrong e in omega (arith, few, many);
      }

  pub read-order : Refused (length bytes ≢ 40) 1 (Refused (3 ≤ wrong_sync letter bytes) 3 Accepted) (number_in (read_frame letter bytes))
  unfolding read_frame
  read-order =
      rw (numbered (eqb (length bytes) 40) (leb (wrong_sync letter bytes) most_wrong) (found (wrong_sync letter bytes) (service_read letter bytes) (blocks_in bytes)) (Err Sync) (Err Length))
      (tested _ _ (tells-length (length bytes) 40) (tested _ _ tells-sync refl))
