-- Laws of the table of names, each one test over the whole table.
--     name-at           entry t of the table is the short name of type t
--     word_good         the word of each type is a good one
--     name-eight        so that its short name, the word padded, has eight characters
-- Assumes nothing.
use mathlib.Core.Path.{◌≡◌, ◌∙◌}
use mathlib.Core.List.{List, map}
use Prim.Native.Nat.{ℕ, ◌<◌, ◌≤◌}
use native.Mathlib.Omega.{arith}
use lib.Dec.{T, leb, leb→le}
use lib.ListN.{length, get_or, length-append, length-replicate, get_or-map}
use Rattle.bits.specs.Table.{every}
use Rattle.bits.proofs.Table.{get_or-within}
use Rattle.bits.proofs.Every.{every-at}
use Rattle.bits.specs.Letters.{letters}
use Rattle.programme.specs.Names.{names, padded, name_of, good_word}

pub name-at : (d : List ℕ) (t : ℕ) → t < 16 → get_or (map padded names) t d ≡ name_of t
unfolding names name_of
name-at d t h = get_or-within (map padded names) t d (padded "") h ∙ get_or-map padded names t ""

pub word_good : (t : ℕ) → t < 16 → T (good_word (letters (get_or names t "")))
unfolding names letters good_word every
word_good t h = every-at (λ text. good_word (letters text)) names t "" tt h

word-short : (t : ℕ) → t < 16 → length (letters (get_or names t "")) ≤ 8
unfolding names letters every
word-short t h = leb→le (length (letters (get_or names t ""))) 8 (every-at (λ text. leb (length (letters text)) 8) names t "" tt h)

pub name-eight : (t : ℕ) → t < 16 → length (name_of t) ≡ 8
unfolding name_of padded
name-eight t h = let short : length (letters (get_or names t "")) ≤ 8 = word-short t h in simp (length-append, length-replicate) (omega arith)
