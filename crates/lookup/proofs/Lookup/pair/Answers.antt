-- `lookup::Lookup::pair` meets its contract. Assumes nothing.
use mathlib.Core.Path.{◌≡◌, sym, ap, ap₂, ◌∙◌}
use mathlib.Core.List.{List}
use Prim.Native.Nat.{ℕ, ◌+◌, ◌/◌, ◌%◌}
use native.Mathlib.Omega.{arith}
use lib.ListN.{length, get_or}
use borrow.Author.Rules.{rules}
use Rattle.std.specs.declared.option.Option.TheVariants.{Some, None}
use Rattle.lookup.specs.Search.{first_in, pair_of, pair_by, place_in}
use Rattle.lookup.proofs.Search.{pair-there, pair-away, found_is, missed_is, apart-none, apart-some}
use Rattle.lookup.proofs.Lookup.pair.Goals as goal

module _ (pairs places starts : List ℕ) (low from to : ℕ) (size : length pairs ≡ 1953) (f : from ≡ get_or starts (low / 2048) 0) (t : to ≡ get_or starts (low / 2048 + 1) 0) where
  there : first_in pairs low from to ≡ pair_of pairs starts low
  unfolding pair_of
  there = ap₂ (first_in pairs low) f t

  found : (at : ℕ) → place_in (length pairs) (first_in pairs low from to) ≡ Some at → get_or places at 0 ≡ pair_by pairs places starts low
  found at e =
      let h = found_is _ _ at e in
      ap (λ (k : ℕ). get_or places k 0) (sym h.1 ∙ there) ∙ sym (pair-there pairs places starts low (omega (arith, there, h.0, size)))

  missed : place_in (length pairs) (first_in pairs low from to) ≡ None → pair_by pairs places starts low ≡ 0
  missed e = let h = missed_is _ _ e in pair-away pairs places starts low (omega (arith, there, h, size))

pub returns-in_err-at : goal.returns-in_err-at
returns-in_err-at c =
    let t = c.args.self.now.pairs in
    let size : length t.remainders ≡ 1953 = search rules in
    let none = missed t.remainders t.places t.starts _ _ _ size c.from-from.ensures c.from-to.ensures (sym c.first_in.ensures ∙ c.in_err-at.was) in
    c.from_residual.ensures ∙ sym (apart-none _ none)

pub returns-then-both-eq0 : goal.returns-then-both-eq0
returns-then-both-eq0 c =
    let t = c.args.self.now.pairs in
    let size : length t.remainders ≡ 1953 = search rules in
    let is = found t.remainders t.places t.starts _ _ _ size c.from-from.ensures c.from-to.ensures _ (sym c.first_in.ensures ∙ c.in_ok-at.was) in
    sym (apart-none _ (sym (c.from-both.ensures ∙ is) ∙ c.if-both-eq0.true))

pub returns-else-both-eq0 : goal.returns-else-both-eq0
returns-else-both-eq0 c =
    let t = c.args.self.now.pairs in
    let size : length t.remainders ≡ 1953 = search rules in
    let is = c.from-both.ensures ∙ found t.remainders t.places t.starts _ _ _ size c.from-from.ensures c.from-to.ensures _ (sym c.first_in.ensures ∙ c.in_ok-at.was) in
    ap (λ (x : ℕ). Some (x / 64, x % 64)) is ∙ sym (apart-some _ (λ z. c.if-both-eq0.false (is ∙ z)))
