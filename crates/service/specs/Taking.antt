-- The state behind six bytes, and behind the sync that follows them (document 01, "Service groups").
--     take_six s six         the state behind six bytes; the position stays, for the sync to look at
--     stage_with k p t       the stage behind a sync of kind k
--     take_sync k s          the state behind a sync of kind k
use Rattle.std.specs.Prelude.{ℕ, cond, List, ltb}
use Rattle.bits.specs.Table.{zeros}
use Rattle.service_group.specs.Six.{group_after, labels_after, stage_after}
use Rattle.service_sync.specs.Sync.{next_position, drops_with}
use Rattle.service_sync.specs.declared.Kind.{Kind}
use Rattle.service.specs.declared.Service.{Service}

unfoldable pub take_six : Service → List ℕ → Service
take_six s six =
    let g = group_after s.position s.group six in
    record {
      position = s.position;
      group = g;
      stage = stage_after s.position s.stage g;
      labels = labels_after s.position s.stage s.labels g;
    }

-- any drop returns to searching for labels
abbrev pub stage_with : Kind → ℕ → ℕ → ℕ
stage_with k p t = cond (drops_with k p) 0 t

-- no group stands before its first position, and no labels while they are searched for
unfoldable pub take_sync : Kind → Service → Service
take_sync k s =
    record {
      position = next_position k s.position;
      group = cond (ltb 1 (next_position k s.position)) s.group (zeros 32);
      stage = stage_with k s.position s.stage;
      labels = cond (ltb 0 (stage_with k s.position s.stage)) s.labels (zeros 256);
    }
