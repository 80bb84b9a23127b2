-- What the totals of a listing are, in document 01's words: "superframes counts the whole ones read, lost ones among them".
--     is_lost sf             1 for a superframe with a wrong sync, else 0
--     sync_in sf             the wrong bits of its 128 syncs, added; none of a lost one, not even those of its good frames
--     kind_on_tape sf t       what block t of its 512, in tape order, is by the ordinary reading: 0 clean, 1 mended, 2 bad
--     blocks_with k sf       how many of its 512 blocks are of kind k; none of a lost one
--     counted sfs           all six totals of some superframes
--     Superframes sfs       each is a whole superframe, by its length
use Rattle.std.specs.Prelude.{ℕ, ◌≡◌, cond, List, [], ◌∷◌, eqb, length, get_or}
use Rattle.bits.specs.Table.{total}
use Rattle.reading.specs.Reading.{ordinary}
use Rattle.block.specs.Read.{bad}
use Rattle.block.specs.Mark.{kind_of}
use Rattle.tape.specs.Tape.{synced, wrong_bits, readings, how_many}
use Rattle.tally.specs.declared.Totals.{Totals}

unfoldable pub is_lost : List ℕ → ℕ
is_lost sf = cond (synced sf) 0 1

unfoldable pub sync_in : List ℕ → ℕ
sync_in sf = cond (synced sf) (wrong_bits sf) 0

unfoldable pub kind_on_tape : List ℕ → ℕ → ℕ
kind_on_tape sf t = kind_of (get_or (readings ordinary sf) t bad)

unfoldable pub blocks_with : ℕ → List ℕ → ℕ
blocks_with k sf = cond (synced sf) (how_many 512 (λ t. eqb (kind_on_tape sf t) k)) 0

unfoldable pub counted : List (List ℕ) → Totals
counted sfs =
    record {
      superframes = length sfs;
      lost = total is_lost sfs;
      wrong = total sync_in sfs;
      clean = total (blocks_with 0) sfs;
      mended = total (blocks_with 1) sfs;
      bad = total (blocks_with 2) sfs;
    }

unfoldable pub Superframes : List (List ℕ) → Type 0
Superframes [] = Unit {0}
Superframes (sf ∷ sfs) = (length sf ≡ 5120) × Superframes sfs
