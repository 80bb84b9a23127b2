-- `sample::is_code` meets its contract. Assumes nothing.
use mathlib.Core.Path.{sym}
use mir.Syntax.{w16}
use mir.ValLaws.{to_z-of_z}
use Rattle.sample.proofs.Sample.{code-mag}
use Rattle.sample.proofs.is_code.Goals as goal

pub returns : goal.returns
returns c =
    let code = c.args.code in
    rw (c.reach.ensures, to_z-of_z w16 code c.ranges.code) (sym (code-mag code))
