-- Runs of the service machine, superframe after superframe.
--     Step              what one superframe brings: six bytes and the sync behind them
--     stepped s x       the answer to a step
--     next_of s r       the state that an answer to s leaves: as it was given where it is refused
--     after s xs        the state behind the steps xs, each given the state that the one before left
use Rattle.std.specs.Prelude.{ℕ, List, [], ◌∷◌}
use Rattle.std.specs.declared.result.Result.{Result}
use Rattle.std.specs.declared.result.Result.TheVariants.{Ok, Err}
use Rattle.bits.specs.declared.refusal.Refusal.{Refusal}
use Rattle.service.specs.Service.{served}
use Rattle.service.specs.declared.Service.{Service}
use Rattle.service.specs.declared.Served.{Served}

pub record Step : Type 0 where
  pub six : List ℕ
  pub sync : List ℕ

abbrev pub stepped : Service → Step → Result (Served Service) Refusal
stepped s x = served s x.six x.sync

abbrev pub next_of : Service → Result (Served Service) Refusal → Service
next_of s (Ok r) = r.next
next_of s (Err e) = s

unfoldable pub after : Service → List Step → Service
after s [] = s
after s (x ∷ xs) = after (next_of s (stepped s x)) xs
