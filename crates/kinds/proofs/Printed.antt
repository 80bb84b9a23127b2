-- The kinds of pairs by the marks of their two samples, as docs/HAND-ON.md says them: `kinds-printed`. Assumes nothing.
use mathlib.Core.Path.{◌≡◌, refl}
use mathlib.Core.List.{List, [], ◌∷◌}
use Prim.Native.Nat.{ℕ, ◌/◌, ◌%◌}
use Rattle.bits.specs.Table.{tabulate}
use Rattle.kinds.specs.Kinds.{kind_of}

-- a row for each mark of the left sample, 0 to 4, and a column for each of the right one: 0 untroubled, 1 bad, 2 no factor
abbrev printed : List ℕ
printed =
    0 ∷ 0 ∷ 1 ∷ 2 ∷ 0
    ∷ 0 ∷ 0 ∷ 1 ∷ 2 ∷ 0
    ∷ 1 ∷ 1 ∷ 1 ∷ 2 ∷ 1
    ∷ 2 ∷ 2 ∷ 2 ∷ 2 ∷ 2
    ∷ 0 ∷ 0 ∷ 1 ∷ 2 ∷ 0
    ∷ []

pub kinds-printed : tabulate 25 (λ n. kind_of (n / 5) (n % 5)) ≡ printed
unfolding tabulate kind_of
kinds-printed = refl
