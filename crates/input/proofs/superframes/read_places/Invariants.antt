use Rattle.std.proofs.Common.{◌≤◌, ◌≡◌, Ok}
use Rattle.input.specs.HandedOn.{HandedOn}
use Rattle.input.proofs.superframes.read_places.Given as goal

abbrev pub invariant-loop-k : goal.invariant-loop-k
invariant-loop-k g l =
    (goal.iterator-loop-k g).can_next l.k-iterator ×
    (goal.iterator-loop-k g).is_finite l.k-iterator ×
    (l.k-iterator.end ≡ l.initial.k-iterator.end) ×
    (l.next ≡ l.k-iterator.start) ×
    (l.initial.k-iterator.start ≤ l.initial.k-iterator.end → l.next ≤ l.initial.k-iterator.end) ×
    HandedOn (λ f k h. (superframe : _) × goal.F-step g f k superframe (Ok tt) h) l.initial.k-iterator.start l.initial.take l.next l.take ×
    (l.initial.k-iterator.start ≤ l.next) ×
    (l.initial.k-iterator.start ≤ l.initial.progress.done → l.initial.progress.done ≤ l.initial.k-iterator.end
    → (l.initial.k-iterator.start ≤ l.progress.done) × (l.progress.done ≤ l.initial.k-iterator.end)) ×
    (l.initial.progress.done ≡ l.initial.k-iterator.start → l.next ≡ l.progress.done)
