-- `type_lines::put_name` meets its contract. Assumes nothing.
use mathlib.Core.Path.{ap, ◌∙◌}
use mathlib.Core.List.{List}
use Prim.Native.Nat.{ℕ}
use lib.ListN.{take}
use Rattle.std.specs.Prelude.{replicate}
use Rattle.std.specs.Result.{result_unwrap_or}
use Rattle.std.specs.declared.result.Result.{Result}
use Rattle.bits.specs.declared.refusal.Refusal.{Refusal}
use Rattle.text.proofs.Pens.{puts_as}
use Rattle.type_lines.specs.Types.{held_to, bare}
use Rattle.type_lines.proofs.put_name.Goals as goal

pub returns : goal.returns
unfolding bare
returns c =
    puts_as
    (c.held.ensures
    ∙ ap (λ (l : List ℕ). take (held_to 8 l) l)
    (c.unwrap_or-name.ensures ∙ ap (λ (r : Result (List ℕ) Refusal). result_unwrap_or r (replicate 8 0)) c.name_of.ensures))
    c.put_all.ensures
