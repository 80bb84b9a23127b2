-- `frame_writer::bit_of` meets its contract. Assumes nothing.
use mathlib.Core.Path.{sym}
use native.Mathlib.Omega.{arith}
use Rattle.frame.proofs.Parts.{at-sync, at-service, at_front, at_back}
use borrow.Author.Rules.{rules}
use Rattle.frame_writer.proofs.bit_of.Goals as goal

pub returns-then-k-lt11 : goal.returns-then-k-lt11
returns-then-k-lt11 c = let a = c.args in sym (at-sync a.sync.now a.service a.front.now a.back.now (search rules) (search rules) a.k c.if-k-lt11.true)

pub returns-then-k-eq11 : goal.returns-then-k-eq11
returns-then-k-eq11 c = let a = c.args in sym (at-service a.sync.now a.service a.front.now a.back.now (search rules) (search rules) a.k c.if-k-eq11.true)

pub returns-then-k-lt166 : goal.returns-then-k-lt166
returns-then-k-lt166 c = let a = c.args in sym (at_front a.sync.now a.service a.front.now a.back.now (search rules) (search rules) a.k (omega arith) c.if-k-lt166.true)

pub returns-else-k-lt166 : goal.returns-else-k-lt166
returns-else-k-lt166 c = let a = c.args in sym (at_back a.sync.now a.service a.front.now a.back.now (search rules) (search rules) a.k c.if-k-lt166.false)
