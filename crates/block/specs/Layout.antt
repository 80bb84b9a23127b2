-- The 77 bits of a block (document 01, "The block"): 44 sound bits, 19 check bits, 12 sound bits, 2 extra bits.
-- Codes go in channel order: left, right of the first programme, left, right of the second. Channels count from 0 here.
--     joined ls         lists, one behind the other
--     upper c, lower c  the upper 11 bits and the lower 3 of a 14-bit code, highest first
--     sound codes       the 44 protected sound bits: the upper bits of the four codes, code by code
--     rest codes        the 12 unprotected ones: their lower bits, code by code
--     block_with codes extra   the block
--     fourteen block c  the 14 bits of channel c: its 11 among the first 44, its 3 among the 12
--     code_place c k       where bit k of them stands in the block
use Rattle.std.specs.Prelude.{ℕ, ◌+◌, ◌*◌, cond, List, [], ◌∷◌, ◌++◌, map, ltb, ℤ, take, drop}
use Rattle.code.specs.Generators.{block_generator}
use Rattle.code.specs.Words.{encode}
use Rattle.sample.specs.Pattern.{code_bits}

unfoldable pub joined : List (List ℕ) → List ℕ
joined [] = []
joined (l ∷ ls) = l ++ joined ls

abbrev pub upper : ℤ → List ℕ
upper c = take 11 (code_bits c)

abbrev pub lower : ℤ → List ℕ
lower c = drop 11 (code_bits c)

unfoldable pub sound : List ℤ → List ℕ
sound codes = joined (map upper codes)

unfoldable pub rest : List ℤ → List ℕ
rest codes = joined (map lower codes)

unfoldable pub block_with : List ℤ → List ℕ → List ℕ
block_with codes extra = encode block_generator (sound codes) ++ (rest codes ++ extra)

unfoldable pub fourteen : List ℕ → ℕ → List ℕ
fourteen block c = take 11 (drop (11 * c) block) ++ take 3 (drop (63 + 3 * c) block)

-- the lower bits, k from 11 on, stand behind the first 63: 63 - 11 is 52
unfoldable pub code_place : ℕ → ℕ → ℕ
code_place c k = cond (ltb k 11) (11 * c + k) (52 + 3 * c + k)
