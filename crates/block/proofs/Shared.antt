-- What the reading at the radius 3 and the ordinary one share.
--     shared            THE THEOREM, of blocks
-- Assumes nothing.
use mathlib.Core.Path.{◌≡◌, refl, sym, ◌∙◌}
use mathlib.Core.List.{List, [], ◌∷◌, ◌++◌}
use Prim.Native.Nat.{ℕ}
use native.Mathlib.Omega.{arith}
use lib.ListN.{drop}
use Rattle.bits.specs.Answer.{accepted}
use Rattle.code.specs.Words.{CodeWord, distance}
use Rattle.reading.specs.Reading as R
use Rattle.reading.specs.Reading.{Reading, handed, ordinary}
use Rattle.reading.specs.Search.{reading}
use Rattle.reading.proofs.Wider.{wider-same, next_word, word_next}
use Rattle.block.specs.Read.{mended, bad, said, protected, said_of, handed_on}
use Rattle.block.specs.Demand.{IsBlock, Shared}
use Rattle.block.proofs.Demand.{front, below, said-mended, heard}

module _ (block : List ℕ) (b : IsBlock block) where
  abbrev word : List ℕ
  word = protected block

  say : (radius : ℕ) (r : Reading) → reading radius word ≡ r → said_of radius block ≡ accepted (said r ∷ [])
  unfolding said_of
  say radius r e = rw (b.bits, e)

  hand : (radius : ℕ) (r : Reading) → reading radius word ≡ r → handed_on radius block ≡ handed word r ++ drop 63 block
  unfolding handed_on
  hand radius r e = rw (b.bits, e)

  not-bad : (said_of ordinary block ≡ accepted (bad ∷ []) → ⊥) → reading 3 word ≡ reading ordinary word
  unfolding said
  not-bad n = wider-same word (front block b) (below block b) ordinary 3 (omega arith) (omega arith) (λ e. n (say ordinary R.bad e))

  three : said_of 3 block ≡ accepted (mended 3 ∷ []) → (said_of ordinary block ≡ accepted (bad ∷ [])) × ((c : List ℕ) × (CodeWord c × (distance c word ≡ 3)))
  unfolding said
  three e =
      let t = said-mended (reading 3 word) 3 (heard 3 block (mended 3) e).1 in
      let h = next_word word (front block b) (below block b) ordinary (omega arith) t.0 t.1 in
      (say ordinary R.bad h.0, (t.0, h.1))

  back : (said_of ordinary block ≡ accepted (bad ∷ [])) × ((c : List ℕ) × (CodeWord c × (distance c word ≡ 3))) → said_of 3 block ≡ accepted (mended 3 ∷ [])
  unfolding said
  back h = say 3 (R.mended 3 h.1.0) (word_next word (front block b) (below block b) ordinary (omega arith) h.1.0 h.1.1.0 h.1.1.1)

pub shared : Shared (said_of ordinary) (said_of 3) (handed_on ordinary) (handed_on 3)
shared =
    record {
      same = λ block b n. say block b 3 _ (not-bad block b n) ∙ sym (say block b ordinary _ refl);
      same-hands = λ block b n. hand block b 3 _ (not-bad block b n) ∙ sym (hand block b ordinary _ refl);
      three-when = λ block b. (three block b, back block b);
    }
