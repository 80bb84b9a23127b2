-- The service machine: six bytes and the sync behind them (document 01, "Service groups", "Numbers given").
--     searching_service      no group open, labels searched for
--     in_range s             position and stage are at most 8; the bytes are free
--     accepts s sync        the state is in its range and the sync's entries are bits
--     step_by s six k        the answer to a step that is accepted: the six bytes are taken first, then the sync of kind k
--     number_told r          the number that an answer gives: 7 where the sync is neither of the two
--     served s six sync     the answer to any state, any six bytes and any 16 numbers: number 2, and the state as given, where they are not accepted
use Rattle.std.specs.Prelude.{ℕ, Bool, false, cond, List, leb}
use Rattle.std.specs.Bool.{then_some}
use Rattle.std.specs.declared.result.Result.{Result}
use Rattle.std.specs.declared.result.Result.TheVariants.{Ok, Err}
use Rattle.bits.specs.declared.refusal.Refusal.{Refusal}
use Rattle.bits.specs.declared.refusal.Refusal.TheVariants.{Range}
use Rattle.bits.specs.Table.{zeros}
use Rattle.bits.specs.Bits.{all_below}
use Rattle.service_group.specs.Six.{is_ready}
use Rattle.bits.specs.Refused as refusals
use Rattle.service_sync.specs.Sync.{kind_of, number_of}
use Rattle.service.specs.Taking.{take_six, take_sync}
use Rattle.service.specs.declared.Service.{Service}
use Rattle.service.specs.declared.Served.{Served}
use Rattle.service_sync.specs.declared.Kind.{Kind}

unfoldable pub searching_service : Service
searching_service = record { position = 0; group = zeros 32; stage = 0; labels = zeros 256 }

unfoldable pub in_range : Service → Bool
in_range s = cond (leb s.position 8) (leb s.stage 8) false

unfoldable pub accepts : Service → List ℕ → Bool
accepts s sync = cond (in_range s) (all_below 2 sync) false

-- the six bytes have the position that the sync before them gave; a drop behind them does not change it
abbrev pub step_by : Service → List ℕ → Kind → Served Service
step_by s six k =
    record {
      position = s.position;
      kind = k;
      labels = then_some (is_ready s.position s.stage) (take_six s six).labels;
      next = take_sync k (take_six s six);
    }

unfoldable pub served : Service → List ℕ → List ℕ → Result (Served Service) Refusal
served s six sync = cond (accepts s sync) (Ok (step_by s six (kind_of sync))) (Err Range)

abbrev pub number_told : Result (Served Service) Refusal → ℕ
number_told (Ok r) = number_of r.kind
number_told (Err e) = refusals.number_of e
