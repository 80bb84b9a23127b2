-- Runs of service bytes over the reader's state, superframe after superframe.
--     taken s x         the answer to one superframe's six bytes and sync
--     behind s xs       the state behind the steps xs, each given the state that the one before handed back
use Rattle.std.specs.Prelude.{List, [], ◌∷◌, Result}
use Rattle.bits.specs.declared.refusal.Refusal.{Refusal}
use Rattle.service.specs.Run.{Step}
use Rattle.service.specs.declared.Served.{Served}
use Rattle.superframe.specs.State.{serviced_with, next_served}
use Rattle.superframe.specs.declared.state.State.{State}

abbrev pub taken : State → Step → Result (Served State) Refusal
taken s x = serviced_with s x.six x.sync

unfoldable pub behind : State → List Step → State
behind s [] = s
behind s (x ∷ xs) = behind (next_served s (taken s x)) xs
