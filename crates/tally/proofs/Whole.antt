-- Every block of a superframe is clean, mended or bad, and none is two of these.
--     blocks-whole      a superframe that is not lost has 512 blocks in all, a lost one none
-- Assumes nothing.
use mathlib.Core.Path.{◌≡◌, refl}
use mathlib.Core.Bool.{cond}
use mathlib.Core.List.{List}
use Prim.Native.Nat.{ℕ, zero, suc, ◌+◌, ◌*◌}
use native.Mathlib.Omega.{arith}
use lib.Dec.{eqb}
use lib.ListN.{get_or}
use Rattle.bits.proofs.Tests.{either_way}
use Rattle.block.specs.Read.{Said, clean, mended, bad}
use Rattle.reading.specs.Reading.{ordinary}
use Rattle.tape.specs.Tape.{synced, readings, how_many}
use Rattle.block.specs.Mark.{kind_of}
use Rattle.tally.specs.Reel.{is_lost, kind_on_tape, blocks_with}

-- 1 where the kind is k
abbrev is : ℕ → ℕ → ℕ
is kind k = cond (eqb kind k) 1 0

one-kind : (r : Said) → is (kind_of r) 0 + (is (kind_of r) 1 + is (kind_of r) 2) ≡ 1
unfolding kind_of
one-kind clean = refl
one-kind (mended n) = refl
one-kind bad = refl

-- of n blocks with a reading each, those of the three kinds are all
all_kinds : (n : ℕ) (r : ℕ → Said) →
    how_many n (λ f. eqb (kind_of (r f)) 0) + (how_many n (λ f. eqb (kind_of (r f)) 1) + how_many n (λ f. eqb (kind_of (r f)) 2)) ≡ n
unfolding how_many
all_kinds zero r = refl
all_kinds (suc n) r = let h = all_kinds n r in let o = one-kind (r n) in omega (arith, h, o)

pub blocks-whole : (sf : List ℕ) → 512 * is_lost sf + (blocks_with 0 sf + (blocks_with 1 sf + blocks_with 2 sf)) ≡ 512
unfolding is_lost blocks_with kind_on_tape
blocks-whole sf = let w = all_kinds 512 (λ t. get_or (readings ordinary sf) t bad) in either_way (synced sf) (λ e. rw e (omega (arith, w))) (λ e. rw e refl)
