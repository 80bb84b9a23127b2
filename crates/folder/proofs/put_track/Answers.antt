-- `folder::put_track` meets its contract. Assumes nothing.
use mathlib.Core.List.{[], ◌∷◌}
use Rattle.text.proofs.Pens.{puts_then}
use Rattle.folder.specs.Files.{track_name}
use Rattle.folder.proofs.put_track.Goals as goal

pub returns : goal.returns
unfolding track_name
returns c = puts_then {s = _ ∷ []} c.put.ensures (puts_then {s = _ ∷ []} c.put-2.ensures c.put_all.ensures)
