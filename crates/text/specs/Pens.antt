-- A pen on a lent buffer.
--     on p              the page that a pen stands on: the bytes behind its reference, and its place
--     Puts old new s    a call that had the pen as `old` and left it as `new` put the text s: the pen is on the same buffer
--     PutsBy post s     each call of a closure, whose calls `post` tells, puts the text s
use denote.MutBor.{MutBor}
use Rattle.std.specs.Prelude.{◌≡◌, ℕ, List}
use Rattle.text.specs.Page.{Page, page, put_text}
use Rattle.text.specs.declared.pen.Pen.{Pen}

abbrev pub on : Pen → Page
on p = page p.out.now p.to

pub record Puts (old new : Pen) (s : List ℕ) : Type 0 where
  pub same_buffer : new.out.ghost_name ≡ old.out.ghost_name
  pub told : on new ≡ put_text (on old) s

abbrev pub PutsBy : (MutBor Pen → Unit {0} → MutBor Pen → Type 0) → List ℕ → Type 0
PutsBy post s = (p q : MutBor Pen) → post p tt q → Puts p.now q.now s
