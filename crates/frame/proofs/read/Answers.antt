-- `frame::read` meets its contract. Assumes nothing.
use native.Mathlib.Omega.{arith}
use borrow.Author.Tests.{eq-eqb, ne_eqb, le-leb, lt-leb}
use lib.ListN.{length}
use Rattle.frame.specs.Read.{wrong_sync, most_wrong, read_frame}
use Rattle.frame.proofs.read.Goals as goal

pub returns-then-bytes-ne40 : goal.returns-then-bytes-ne40
unfolding read_frame
returns-then-bytes-ne40 c =
    let a = c.args in
    rw (ne_eqb (length a.bytes.now) 40 (λ e. omega arith))

pub returns-then-wrong-gt-MOST_WRONG : goal.returns-then-wrong-gt-MOST_WRONG
unfolding read_frame
returns-then-wrong-gt-MOST_WRONG c =
    let a = c.args in
    let wrong = c.sync_errors-wrong.ensures in
    rw (
      eq-eqb (length a.bytes.now) 40 (omega arith),
      lt-leb (wrong_sync a.letter a.bytes.now) most_wrong (omega arith),
    )

pub returns : goal.returns
unfolding read_frame
returns c =
    let a = c.args in
    let wrong = c.sync_errors-wrong.ensures in
    rw (
      eq-eqb (length a.bytes.now) 40 (omega arith),
      le-leb (wrong_sync a.letter a.bytes.now) most_wrong (omega arith),
      wrong,
      c.service_of.ensures,
      c.gather.ensures,
      c.gather-2.ensures,
      c.gather-3.ensures,
      c.gather-4.ensures,
    )
