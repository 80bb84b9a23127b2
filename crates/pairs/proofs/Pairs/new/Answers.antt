-- `pairs::Pairs::new` meets its contract: the tables' rules, computed over the whole of them. Assumes nothing.
use mathlib.Core.Path.{◌≡◌, ◌∙◌}
use mathlib.Core.List.{List, map}
use Prim.Native.Nat.{ℕ, ◌/◌, ◌%◌, ◌^◌}
use Rattle.bits.specs.Table.{tabulate}
use Rattle.bits.specs.Digits.{value}
use Rattle.remainder.specs.Polynomial.{◌⊕◌, times}
use Rattle.remainder.specs.Remainder.{take_off, step, divide, remainder}
use Rattle.remainder.specs.Columns.{column, columns}
use Rattle.pairs.specs.Order.{insert, grow, flat, in_order}
use Rattle.pairs.specs.Pairs.{key, with_others, keys_of, keys, pair_table, place_table, below, starts_of, start_table, true_pairs}
use Rattle.pairs.specs.declared.Pairs.{Pairs}
use Rattle.pairs.proofs.Values.{forced, forced-is, computed, computed-is}
use Rattle.pairs.proofs.Pairs.new.Goals as goal

joined : (r p s : List ℕ) → r ≡ pair_table → p ≡ place_table → s ≡ start_table → ◌≡◌ {A = Pairs} (record { remainders = r; places = p; starts = s }) true_pairs
joined r p s a b c = rw (a, b, c)

pub returns : goal.returns
unfolding pair_table place_table start_table starts_of tabulate below keys keys_of with_others key in_order insert grow flat computed forced value columns column remainder divide step take_off times ◌⊕◌
returns c =
    joined _ _ _
    (computed-is (λ (cs : List ℕ). map (λ x. x / 2 ^ 12) (keys cs)))
    (computed-is (λ (cs : List ℕ). map (λ x. x % 2 ^ 12) (keys cs)))
    (computed-is (λ (cs : List ℕ). forced (map (λ x. x / 2 ^ 12) (keys cs)) starts_of) ∙ forced-is pair_table starts_of)
