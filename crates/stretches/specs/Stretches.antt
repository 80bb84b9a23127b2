-- The stretches of a programme that need an ear. Each pair has a kind: 0 untroubled, 1 bad, 2 no factor, 3 (or more) lost. Pairs count from 0.
--     Stretch           where it starts, the place behind its last pair, and how many of its pairs are of each kind
--     rest              so many untroubled pairs in a row end a stretch: 0.1 s
--     counted c b       a count that grows by one where a test passes; it stops at the largest number of 64 bits, which no reel comes near
--     fresh n           a stretch that starts at pair n and has none yet
--     grow s n k        it goes on to pair n, which is of kind k
--     met ss n k        the stretches up to pair n, the last one first, where ss are those before it: an untroubled pair changes nothing;
--                       another one lengthens the last stretch where fewer than `rest` pairs lie between, and else starts one
--     from ss n ks      the same over the kinds of pairs n, n + 1, ..
--     stretches ks      the stretches of a list of kinds, the last one first
--     opened o          the stretch that is not yet known to have ended, if there is one
use Rattle.std.specs.Prelude.{ℕ, suc, ◌+◌, Bool, cond, List, [], ◌∷◌, ltb, eqb}
use Rattle.std.specs.declared.option.Option.{Option}
use Rattle.std.specs.declared.option.Option.TheVariants.{Some, None}
use Rattle.label.specs.declared.Stretch.{Stretch}

abbrev pub rest : ℕ
rest = 3200

abbrev pub counted : ℕ → Bool → ℕ
counted c b = cond b (cond (ltb c 18446744073709551615) (c + 1) c) c

abbrev pub fresh : ℕ → Stretch
fresh n = record { start = n; behind = n; bad = 0; none = 0; lost = 0 }

abbrev pub grow : Stretch → ℕ → ℕ → Stretch
grow s n k =
    record {
      start = s.start;
      behind = n + 1;
      bad = counted s.bad (eqb k 1);
      none = counted s.none (eqb k 2);
      lost = counted s.lost (ltb 2 k);
    }

unfoldable pub met : List Stretch → ℕ → ℕ → List Stretch
met [] n k = cond (eqb k 0) [] (grow (fresh n) n k ∷ [])
met (s ∷ ss) n k = cond (eqb k 0) (s ∷ ss) (cond (ltb n (s.behind + rest)) (grow s n k ∷ ss) (grow (fresh n) n k ∷ s ∷ ss))

unfoldable pub from : List Stretch → ℕ → List ℕ → List Stretch
from ss n [] = ss
from ss n (k ∷ ks) = from (met ss n k) (suc n) ks

abbrev pub stretches : List ℕ → List Stretch
stretches ks = from [] 0 ks

abbrev pub opened : Option Stretch → List Stretch
opened None = []
opened (Some s) = s ∷ []
