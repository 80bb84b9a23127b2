-- `programme::name_of` meets its contract. Assumes nothing.
use mathlib.Core.Path.{ap}
use mathlib.Core.List.{[]}
use Prim.Native.Nat.{◌<◌}
use native.Mathlib.Omega.{arith}
use borrow.Author.Tests.{lt-ltb}
use Rattle.std.specs.declared.result.Result.TheVariants.{Ok}
use Rattle.bits.specs.Letters.{letters}
use Rattle.programme.specs.Names.{name_for, names, padded}
use Rattle.programme.proofs.Names.{name-at}
use Rattle.programme.proofs.name_of.Goals as goal

pub returns : goal.returns
unfolding name_for names padded letters
returns c =
    let h : c.args.kind < 16 = omega arith in
    rw (lt-ltb c.args.kind 16 h)
    (ap Ok (rw c.from.ensures (name-at [] c.args.kind h)))
