use Rattle.std.proofs.Common.{ℕ, ◌≤◌, sym, subst}
use Rattle.streams.specs.Error.{Told, failed}
use Rattle.streams.proofs.Error.{error-is-one}
use Rattle.streams.proofs.errno.failed.Goals as goal

pub returns : goal.returns
returns c =
    let told = sym c.error_of.ensures in
    (subst Told told (failed _), subst (λ (e : ℕ). 1 ≤ e) told (error-is-one _))
