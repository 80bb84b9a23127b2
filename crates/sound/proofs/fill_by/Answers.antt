-- `sound::fill_by` meets its contract. Assumes nothing.
use mathlib.Core.Path.{◌≡◌, ◌∙◌}
use mathlib.Core.List.{[]}
use Prim.Native.Nat.{◌*◌}
use native.Mathlib.Omega.{arith}
use lib.ListN.{length-take, length-drop}
use Rattle.bits.proofs.Table.{tab-none, tab-more, tab-done, filled_zero, filled-all}
use Rattle.tape.specs.Tape.{block_mark, in_eights}
use Rattle.sound.specs.Sound.{sample_at, mark_at, in_rows, samples_of, marks_of}
use Rattle.sound.proofs.Samples.{part-back}
use borrow.Author.Rules.{rules}
use Rattle.sound.proofs.fill_by.Goals as goal

pub loop-n-init : goal.loop-n-init
loop-n-init c = (search rules, filled_zero _ _, filled_zero _ _, search rules, tab-none (in_eights (block_mark c.args.radius c.args.sf.now)) [])

pub four-mark-requires-clause-samples_len : goal.four-mark-requires-clause-samples_len
four-mark-requires-clause-samples_len c = simp (length-take, length-drop) (omega arith)

pub four-mark-requires-clause-marks_len : goal.four-mark-requires-clause-marks_len
four-mark-requires-clause-marks_len c = simp (length-take, length-drop) (omega arith)

pub loop-n-preserved : goal.loop-n-preserved
loop-n-preserved c =
    let a = c.args in
    let f = c.four-mark.ensures in (
      search rules,
      part-back (in_rows (sample_at a.radius a.sf.now a.factors.now)) c.loop-n.n a.samples.now _ _ (omega arith) c.loop-n.invariant.1 f.samples_after,
      part-back (in_rows (mark_at a.radius a.sf.now a.factors.now)) c.loop-n.n a.marks.now _ _ (omega arith) c.loop-n.invariant.2 f.marks_after,
      search rules,
      tab-more (in_eights (block_mark a.radius a.sf.now)) c.loop-n.out c.loop-n.n _ (omega arith) c.loop-n.invariant.4 f.value,
    )

pub returns : goal.returns
unfolding samples_of marks_of
returns c =
    let a = c.args in
    let e : 4 * c.loop-n.n ≡ 2048 = omega arith in
    record {
      value = tab-done (in_eights (block_mark a.radius a.sf.now)) c.loop-n.out 512 c.loop-n.n (omega arith) (omega arith) (omega arith) c.loop-n.invariant.4;
      samples_after = c.loop-n.invariant.1 ∙ rw e (filled-all _ 2048 a.samples.now c.requires.samples_len);
      marks_after = c.loop-n.invariant.2 ∙ rw e (filled-all _ 2048 a.marks.now c.requires.marks_len);
    }
