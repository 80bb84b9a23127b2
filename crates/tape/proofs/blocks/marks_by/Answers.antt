-- `tape::blocks::marks_by` meets its contract. Assumes nothing.
use mathlib.Core.Path.{◌≡◌, refl, ap, ◌∙◌}
use mathlib.Core.Bool.{true}
use Prim.Native.Nat.{◌/◌, ◌%◌}
use native.Mathlib.Omega.{arith}
use Rattle.bits.specs.Table.{tabulate}
use Rattle.bits.proofs.Table.{tab-more, tab-done}
use Rattle.reading.specs.Reading.{ordinary, is_radius}
use Rattle.tape.specs.Tape.{block_mark, in_eights}
use Rattle.words.specs.declared.Told.{Told}
use Rattle.tape.proofs.Quads.{quad-true, quad-mark}
use borrow.Author.Rules.{rules}
use Rattle.tape.proofs.blocks.marks_by.Goals as goal

chosen : is_radius ordinary ≡ true
unfolding is_radius
chosen = refl

pub loop-n-init : goal.loop-n-init
unfolding tabulate
loop-n-init c = (search rules, search rules, refl)

pub loop-n-preserved : goal.loop-n-preserved
loop-n-preserved c =
    let l = c.loop-n in
    let sf = c.args.sf.now in
    let mark = ap (λ (t : Told). t.mark) (c.quad_at-block.ensures ∙ quad-true _ c.requires ordinary chosen sf (l.n / 8) (l.n % 8)) ∙ quad-mark ordinary sf (l.n / 8) (l.n % 8) (omega arith) (omega arith) in
    (search rules, search rules, tab-more (in_eights (block_mark ordinary sf)) l.out l.n _ (omega arith) l.invariant.2 mark)

pub returns : goal.returns
returns c =
    let l = c.loop-n in
    tab-done (in_eights (block_mark ordinary c.args.sf.now)) l.out 512 l.n (omega arith) (omega arith) (omega arith) l.invariant.2
