-- `frame::eight_from` meets its contract: `window`. Assumes nothing.
use Prim.Native.Nat.{◌+◌}
use native.Mathlib.Omega.{arith}
use Rattle.frame.proofs.Window.{window}
use Rattle.frame.proofs.eight_from.Goals as goal

pub returns : goal.returns
returns c =
    let a = c.args in
    λ q l.
    rw (c.from.ensures, c.from-2.ensures)
    (window a.bytes.now a.at a.over q (omega arith) l (c.type_inv.bytes a.at).fits (c.type_inv.bytes (a.at + 1)).fits)
