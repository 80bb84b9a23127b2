-- Running totals in the words of document 02, P7: what is wrong with them, and what a superframe adds. Programmes count from 1: theorems hold the definitions
-- to this.
--     Broken t      "clean, mended and bad of a programme add up to 64 times the superframes taken .. A given state whose totals break that sum is 2", and totals
--                   of more superframes than a history holds
--     Full t        "Totals stop at 1,000,000 superframes given"
--     AddedFor old counts new       what the eight block positions counted is added for two programmes each: position b carries programmes 2b-1 and 2b (document
--                   01, "Main frame")
--     TakenAdds t b t', LostAdds t t'       "the number of blocks read clean, mended and bad, and of lost superframes for all .. A lost superframe adds to the
--                   lost number only"
use Rattle.std.specs.Prelude.{ℕ, ◌+◌, ◌-◌, ◌*◌, ◌<◌, ◌≤◌, ◌≡◌, ◌≢◌, List}
use Rattle.tape.specs.Document.{entry}
use Rattle.tape.specs.declared.blocks.Blocks.{Blocks}
use Rattle.running.specs.declared.Running.{Running}

pub data Broken (t : Running) : Type 0 where
  sum : (q : ℕ) → 1 ≤ q → q ≤ 16 → entry t.clean q 0 + entry t.mended q 0 + entry t.bad q 0 ≢ 64 * t.taken → Broken t
  over : 1000000 < t.taken + t.lost → Broken t

pub record Full (t : Running) : Type 0 where
  pub many : 1000000 ≤ t.taken + t.lost

pub record AddedFor (old counts new : List ℕ) : Type 0 where
  pub first : (b : ℕ) → 1 ≤ b → b ≤ 8 → entry new (2 * b - 1) 0 ≡ entry old (2 * b - 1) 0 + entry counts b 0
  pub second : (b : ℕ) → 1 ≤ b → b ≤ 8 → entry new (2 * b) 0 ≡ entry old (2 * b) 0 + entry counts b 0

pub record TakenAdds (t : Running) (b : Blocks) (t' : Running) : Type 0 where
  pub taken : t'.taken ≡ t.taken + 1
  pub lost : t'.lost ≡ t.lost
  pub clean : AddedFor t.clean b.clean t'.clean
  pub mended : AddedFor t.mended b.mended t'.mended
  pub bad : AddedFor t.bad b.bad t'.bad

pub record LostAdds (t t' : Running) : Type 0 where
  pub lost : t'.lost ≡ t.lost + 1
  pub taken : t'.taken ≡ t.taken
  pub clean : t'.clean ≡ t.clean
  pub mended : t'.mended ≡ t.mended
  pub bad : t'.bad ≡ t.bad
