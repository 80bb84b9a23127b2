-- `stretches::meet` meets its contract. Assumes nothing.
use mathlib.Core.Path.{sym, ap, ◌∙◌}
use mathlib.Core.List.{List, [], ◌∷◌}
use borrow.Author.Tests.{eq-eqb, ne_eqb}
use lib.ListN.{take, drop}
use Rattle.text.proofs.Pens.{puts_as, puts_none}
use Rattle.label.specs.declared.Stretch.{Stretch}
use Rattle.label.specs.Lines.{lines}
use Rattle.stretches.proofs.Laws.{quiet, first, on, anew, one-open, none-ended}
use Rattle.stretches.proofs.meet.Goals as goal
use Rattle.stretches.proofs.meet.Goals.{in-Some+else-near, in_default}

pub returns-then-kind-eq0 : goal.returns-then-kind-eq0
unfolding lines
returns-then-kind-eq0 c =
    let a = c.args in
    let same = quiet a.last a.n a.kind (eq-eqb _ _ c.if-kind-eq0.true) in
    record {
      last = sym (ap (take 1) same ∙ one-open a.last);
      text = puts_as (sym (ap (λ (ss : List Stretch). lines (drop 1 ss)) same ∙ ap lines (none-ended a.last))) (puts_none _);
    }

pub returns-then-near : goal.returns-then-near
unfolding lines
returns-then-near c =
    let a = c.args in
    let longer = on a.last a.n a.kind _ (ne_eqb _ _ c.if-kind-eq0.false) c.in-Some.is (sym c.near.ensures ∙ c.if-near.true) in
    record {
      last = ap (λ (s : Stretch). s ∷ []) c.grown.ensures ∙ sym (ap (take 1) longer);
      text = puts_as (sym (ap (λ (ss : List Stretch). lines (drop 1 ss)) longer)) (puts_none _);
    }

pub returns : goal.returns
unfolding lines
returns c =
    let a = c.args in
    let some = ne_eqb _ _ c.if-kind-eq0.false in
    elim c.match-last.branch [
      | in-Some+else-near w ↦
          let ended = anew a.last a.n a.kind _ some w.in-Some.is (sym w.near.ensures ∙ w.if-near.false) in
          rw w.pen-is
          (record {
            last = ap (λ (s : Stretch). s ∷ []) c.begun.ensures ∙ sym (ap (take 1) ended);
            text = puts_as (sym (ap (λ (ss : List Stretch). lines (drop 1 ss)) ended)) w.put_text.ensures;
          })
      | in_default w ↦
          let start = first a.last a.n a.kind some w.in_default.is in
          rw w.pen-is
          (record {
            last = ap (λ (s : Stretch). s ∷ []) c.begun.ensures ∙ sym (ap (take 1) start);
            text = puts_as (sym (ap (λ (ss : List Stretch). lines (drop 1 ss)) start)) (puts_none _);
          })
    ]
