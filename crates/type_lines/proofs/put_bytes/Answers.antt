-- `type_lines::put_bytes` meets its contract. Assumes nothing.
use Prim.Native.Nat.{ℕ}
use borrow.Author.Rules.{rules}
use lib.ListN.{get_or}
use Rattle.type_lines.specs.Types.{byte_line, type_lines}
use Rattle.type_lines.proofs.put_bytes.Goals as goal

pub returns : goal.returns
unfolding type_lines
returns c =
    let start = c.args in
    c.put_turns.ensures (λ (i : ℕ). byte_line start.k i (get_or start.old.now i 0) (get_or start.new.now i 0)) (λ i p q h post. search rules)
