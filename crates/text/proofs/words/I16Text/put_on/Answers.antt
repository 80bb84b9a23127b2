-- A number with its sign meets its contract. Assumes nothing.
use mathlib.Core.Path.{◌≡◌, sym, ap, ◌∙◌}
use mathlib.Core.List.{[], ◌∷◌}
use lib.IntN.{nat_abs}
use mir.Syntax.{w16}
use mir.Val.{to_z, of_z}
use mir.ValLaws.{to_z-of_z}
use Rattle.text.specs.Digits.{decimal}
use Rattle.text.proofs.Decimal.{signed_below, signed_above}
use Rattle.text.proofs.Pens.{puts_then, puts_as}
use Rattle.text.proofs.words.I16Text.put_on.Goals as goal
use Rattle.text.proofs.words.I16Text.put_on.Goals.{then-self-lt0, else-self-lt0}

pub returns : goal.returns
returns c =
    let read : to_z w16 (of_z w16 c.args.self) ≡ c.args.self = to_z-of_z w16 c.args.self c.ranges.self in
    let far : c.from.result ≡ nat_abs c.args.self = c.from.ensures ∙ c.unsigned_abs.ensures.value ∙ ap nat_abs read in
    let digits = puts_as (ap decimal far) c.put_on.ensures in
    elim c.if-self-lt0.branch [
      | then-self-lt0 w ↦ puts_as (sym (signed_below _ (rw read at w.if-self-lt0.true))) (puts_then {s = 45 ∷ []} (rw w.pen-is w.put.ensures) digits)
      | else-self-lt0 w ↦ puts_as (sym (signed_above _ (rw read at w.if-self-lt0.false))) (rw (← w.pen-is) digits)
    ]
