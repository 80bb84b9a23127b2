-- `type_lines::held` meets its contract: what is behind the letters that are left are spaces. Assumes nothing.
use Prim.Native.Nat.{ℕ, suc, ◌+◌}
use mathlib.Core.Path.{◌≡◌, refl, sym, ap, ◌∙◌}
use mathlib.Core.List.{List, [], ◌∷◌, ◌++◌}
use native.Mathlib.Omega.{arith}
use borrow.Author.Tests.{eq-eqb, ne_eqb}
use lib.ListN.{length, get_or, take, drop}
use lib.Seq.{take-append_seam, get_or-append_seam}
use Rattle.std.proofs.lemmas.List.{take-append-le, take-append-drop, get_or_append_left}
use Rattle.type_lines.specs.Types.{held_to}
use Rattle.type_lines.proofs.held.Goals as goal

-- the letters l that are left of a name s, the last of them x and f those before it
module _ (s l f : List ℕ) (x : ℕ) (part : l ≡ take (length l) s) (split : l ≡ f ++ (x ∷ [])) (longer : length f + 1 ≡ length l) where
  whole : l ++ drop (length l) s ≡ s
  whole = ap (λ (t : List ℕ). t ++ drop (length l) s) part ∙ take-append-drop (length l) s

  shorter : f ≡ take (length f) s
  shorter =
      sym (ap (take (length f)) (sym whole) ∙ take-append-le (length f) l (drop (length l) s) (omega arith) ∙ ap (take (length f)) split ∙ take-append_seam f (x ∷ []))

  last : get_or s (length f) 0 ≡ x
  last =
      ap (λ (t : List ℕ). get_or t (length f) 0) (sym whole)
      ∙ get_or_append_left l (drop (length l) s) 0 (length f) (omega arith)
      ∙ ap (λ (t : List ℕ). get_or t (length f) 0) split
      ∙ get_or-append_seam f x [] 0

  step : length l ≡ suc (length f)
  step = omega arith

  on : x ≡ 32 → held_to (length l) s ≡ held_to (length f) s
  unfolding held_to
  on space = rw (step, eq-eqb (get_or s (length f) 0) 32 (last ∙ space)) refl

  stop : (x ≡ 32 → ⊥) → held_to (length l) s ≡ length l
  unfolding held_to
  stop other = rw (step, ne_eqb (get_or s (length f) 0) 32 (λ e. other (sym last ∙ e))) refl

nothing : (s : List ℕ) → held_to 0 s ≡ 0
unfolding held_to
nothing s = refl

pub loop-last-preserved : goal.loop-last-preserved
loop-last-preserved c =
    let l = c.loop-last in
    let cases = c.in-Some.ensures.cases in
    record {
      part = shorter c.args.name.now l.letters.now _ _ l.invariant.part cases.0 cases.1;
      within = omega arith;
      spaces = l.invariant.spaces ∙ on c.args.name.now l.letters.now _ _ l.invariant.part cases.0 cases.1 c.if-last-ne32.false;
    }

pub returns-then-last-ne32 : goal.returns-then-last-ne32
returns-then-last-ne32 c =
    let l = c.loop-last in
    let s = c.args.name.now in
    let cases = c.in-Some.ensures.cases in
    l.invariant.part
    ∙ ap (λ (n : ℕ). take n s) (sym (l.invariant.spaces ∙ stop s l.letters.now _ _ l.invariant.part cases.0 cases.1 c.if-last-ne32.true))

pub returns-in_default : goal.returns-in_default
returns-in_default c =
    let l = c.loop-last in
    let s = c.args.name.now in
    let none : length l.letters.now ≡ 0 = c.in_default.ensures.cases in
    l.invariant.part ∙ ap (λ (n : ℕ). take n s) (none ∙ sym (l.invariant.spaces ∙ ap (λ (n : ℕ). held_to n s) none ∙ nothing s))
