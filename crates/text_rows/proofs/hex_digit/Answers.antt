use mathlib.Core.Path.{refl}
use borrow.Author.Tests.{lt-ltb, le-ltb}
use Rattle.text_rows.proofs.hex_digit.Goals as goal

pub returns-then-low-lt10 : goal.returns-then-low-lt10
returns-then-low-lt10 c = rw (lt-ltb _ _ c.if-low-lt10.true) refl

pub returns-else-low-lt10 : goal.returns-else-low-lt10
returns-else-low-lt10 c = rw (le-ltb _ _ c.if-low-lt10.false) refl
