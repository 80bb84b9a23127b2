-- A broadcast of labels (document 01, "Service groups"): a separator and the eight groups behind it, all syncs in order.
-- Superframes count from 0: those of the separator are 0 to 7, those of the n-th group behind it 8 n to 8 n + 7.
--     sync_behind k            the sync behind the six bytes of superframe k: Sync 1 behind position 8, else Sync 2
--     step_of sixes k          superframe k, with the six bytes that it brings
--     broadcast sixes n       the first n superframes
--     channel_of sixes n c     the byte of channel c in group n; group 0 is the separator
--     Separated sixes         group 0 is a separator: all its channel bytes are 0
--     labels_of sixes          the labels: character n of channel c is its byte in group n, from 1 on
use Rattle.std.specs.Prelude.{ℕ, ◌+◌, ◌*◌, ◌/◌, ◌%◌, ◌<◌, ◌≡◌, cond, List, eqb, get_or}
use Rattle.bits.specs.Table.{tabulate}
use Rattle.service_sync.specs.Sync.{sync1, sync2}
use Rattle.service.specs.Run.{Step}

abbrev pub sync_behind : ℕ → List ℕ
sync_behind k = cond (eqb (k % 8) 7) sync1 sync2

abbrev pub step_of : (ℕ → List ℕ) → ℕ → Step
step_of sixes k = record { six = sixes k; sync = sync_behind k }

abbrev pub broadcast : (ℕ → List ℕ) → ℕ → List Step
broadcast sixes n = tabulate n (step_of sixes)

abbrev pub channel_of : (ℕ → List ℕ) → ℕ → ℕ → ℕ
channel_of sixes n c = get_or (sixes (8 * n + c / 4)) (c % 4) 0

abbrev pub Separated : (ℕ → List ℕ) → Type 0
Separated sixes = (c : ℕ) → c < 32 → channel_of sixes 0 c ≡ 0

abbrev pub labels_of : (ℕ → List ℕ) → List ℕ
labels_of sixes = tabulate 256 (λ i. channel_of sixes (i % 8 + 1) (i / 8))
