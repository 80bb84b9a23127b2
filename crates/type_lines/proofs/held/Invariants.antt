-- `type_lines::held` meets its contract: what is behind the letters that are left are spaces. Assumes nothing.
use Prim.Native.Nat.{◌≤◌}
use mathlib.Core.Path.{◌≡◌}
use lib.ListN.{length, take}
use Rattle.type_lines.specs.Types.{held_to}
use Rattle.type_lines.proofs.held.Given as goal

abbrev pub invariant-loop-last : goal.invariant-loop-last
invariant-loop-last l =
    record {
      part : l.letters ≡ take (length l.letters) l.name;
      within : length l.letters ≤ 8;
      spaces : held_to 8 l.name ≡ held_to (length l.letters) l.name;
    }

abbrev pub decreases-loop-last : goal.decreases-loop-last
decreases-loop-last l = length l.letters
