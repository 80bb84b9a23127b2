-- `input::fault::header_in` meets its contract. Assumes nothing.
use mathlib.Core.Path.{sym, ap, ◌∙◌}
use mathlib.Core.Bool.{not}
use native.Mathlib.Omega.{arith}
use borrow.Author.Tests.{lt-leb, le-leb}
use lib.ListN.{length}
use Rattle.input.specs.Fault.{fault_of}
use Rattle.input.proofs.Parts.{count-told, offset-told, rest-told, refused-told, err-refused}
use Rattle.std.specs.Prelude.{is_err}
use Rattle.input.specs.Fault.{is_refused}
use Rattle.input.proofs.fault.header_in.Goals as goal

pub returns-then-b-lt16-clause-fault : goal.returns-then-b-lt16-clause-fault
unfolding fault_of
returns-then-b-lt16-clause-fault c = rw (lt-leb 16 (length c.args.b.now) (omega arith))

pub returns-then-is_refused-clause-fault : goal.returns-then-is_refused-clause-fault
unfolding fault_of
returns-then-is_refused-clause-fault c =
    let bytes = c.args.b.now in
    let long = le-leb 16 (length bytes) (omega arith) in
    rw (long, count-told bytes _ c.is_refused.ensures ∙ ap not c.if-is_refused.true)

pub returns-then-is_refused-2-clause-fault : goal.returns-then-is_refused-2-clause-fault
unfolding fault_of
returns-then-is_refused-2-clause-fault c =
    let bytes = c.args.b.now in
    let long = le-leb 16 (length bytes) (omega arith) in
    rw (long, count-told bytes _ c.is_refused.ensures ∙ ap not c.if-is_refused.false, offset-told bytes _ c.is_refused-2.ensures ∙ ap not c.if-is_refused-2.true)

pub returns-in-Ok-clause-fault : goal.returns-in-Ok-clause-fault
unfolding fault_of
returns-in-Ok-clause-fault c =
    let bytes = c.args.b.now in
    let long = le-leb 16 (length bytes) (omega arith) in
    let count = count-told bytes _ c.is_refused.ensures ∙ ap not c.if-is_refused.false in
    let offset = offset-told bytes _ c.is_refused-2.ensures ∙ ap not c.if-is_refused-2.false in
    let read = ap is_err (sym c.in-Ok.is) ∙ err-refused _ ∙ ap is_refused c.read_header.ensures in
    rw (long, count, offset, rest-told bytes _ long count offset read)

pub returns-in-Err-clause-fault : goal.returns-in-Err-clause-fault
unfolding fault_of
returns-in-Err-clause-fault c =
    let bytes = c.args.b.now in
    let long = le-leb 16 (length bytes) (omega arith) in
    let count = count-told bytes _ c.is_refused.ensures ∙ ap not c.if-is_refused.false in
    let offset = offset-told bytes _ c.is_refused-2.ensures ∙ ap not c.if-is_refused-2.false in
    let read = ap is_err (sym c.in-Err.is) ∙ err-refused _ ∙ ap is_refused c.read_header.ensures in
    rw (long, count, offset, rest-told bytes _ long count offset read)

pub returns-then-b-lt16-clause-header : goal.returns-then-b-lt16-clause-header
returns-then-b-lt16-clause-header c = sym (refused-told _ _ (sym (returns-then-b-lt16-clause-fault c)))

pub returns-then-is_refused-clause-header : goal.returns-then-is_refused-clause-header
returns-then-is_refused-clause-header c = sym (refused-told _ _ (sym (returns-then-is_refused-clause-fault c)))

pub returns-then-is_refused-2-clause-header : goal.returns-then-is_refused-2-clause-header
returns-then-is_refused-2-clause-header c = sym (refused-told _ _ (sym (returns-then-is_refused-2-clause-fault c)))

pub returns-in-Err-clause-header : goal.returns-in-Err-clause-header
returns-in-Err-clause-header c = sym (refused-told _ _ (sym (returns-in-Err-clause-fault c)))
