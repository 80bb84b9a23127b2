-- `lookup::Lookup::places` meets its contract: the code's tests are the definition's. Assumes nothing.
use mathlib.Core.Path.{sym, ap, ◌∙◌}
use mathlib.Core.List.{[], ◌∷◌}
use mathlib.Core.Option.{some}
use Prim.Native.Nat.{ℕ, ◌%◌, ◌^◌, ◌≤◌}
use native.Mathlib.Nat.{mod-lt, mod-eq_of_lt}
use lib.Pow.{pow_pos}
use Rattle.reading.specs.Wrong.{answer}
use Rattle.lookup.specs.Search.{last_of, two_by}
use Rattle.lookup.proofs.Search.{by-none, by_two, by_one, by-nowhere, by_three, even-low, odd_low, found_is, missed_is}
use Rattle.lookup.proofs.Lookup.places.Goals as goal

pub returns-then-low-eq0 : goal.returns-then-low-eq0
unfolding answer
returns-then-low-eq0 c = sym (by-none _ _ _ _ _ _ c.if-low-eq0.true)

pub returns-then-low-eq0-2 : goal.returns-then-low-eq0-2
returns-then-low-eq0-2 c =
    let r = c.args.remainder in
    c.two.ensures
    ∙ ap (two_by _ _ _) (mod-eq_of_lt (mod-lt r (pow_pos 19)))
    ∙ sym (by_two _ _ _ _ _ r c.if-low-eq0.false (even-low r c.if-low-eq0-2.true))

pub returns-in-Some : goal.returns-in-Some
unfolding answer
returns-in-Some c =
    let r = c.args.remainder in
    let found = found_is 63 _ _ (sym c.last_of.ensures ∙ c.in-Some.is) in
    ap (λ (n : ℕ). some (n ∷ [])) (sym found.1)
    ∙ sym (by_one _ _ _ _ _ r c.if-low-eq0.false (odd_low r c.if-low-eq0-2.false) found.0)

pub returns-then-radius-lt3 : goal.returns-then-radius-lt3
unfolding answer
returns-then-radius-lt3 c =
    let r = c.args.remainder in
    let none-alone : 63 ≤ last_of _ (r % 2 ^ 19) 63 = missed_is 63 _ (sym c.last_of.ensures ∙ c.in_default.is) in
    sym (by-nowhere _ _ _ _ _ r c.if-low-eq0.false (odd_low r c.if-low-eq0-2.false) none-alone c.if-radius-lt3.true)

pub returns : goal.returns
returns c =
    let r = c.args.remainder in
    let none-alone : 63 ≤ last_of _ (r % 2 ^ 19) 63 = missed_is 63 _ (sym c.last_of.ensures ∙ c.in_default.is) in
    c.three.ensures
    ∙ sym (by_three _ _ _ _ _ r c.if-low-eq0.false (odd_low r c.if-low-eq0-2.false) none-alone c.if-radius-lt3.false)
