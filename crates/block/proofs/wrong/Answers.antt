-- `block::wrong` meets its contract: with the true tables the search gives the wrong places. Assumes nothing.
use mathlib.Core.Path.{◌≡◌, ◌∙◌}
use Rattle.reading.specs.Wrong.{answer, wrong_places}
use Rattle.reading.proofs.Answered.{answered-within}
use Rattle.reading.proofs.Radius.{chosen-wide, chosen-small}
use Rattle.lookup.proofs.Wrong.{places-wrong}
use Rattle.block.proofs.wrong.Goals as goal

pub returns : goal.returns
returns c =
    let radius = c.args.radius in
    let small = chosen-small radius c.requires in
    let told : answer c.places.result ≡ wrong_places radius c.args.remainder =
    rw c.new.ensures at c.places.ensures ∙ places-wrong radius (chosen-wide radius c.requires) small c.args.remainder in
    record { wrong = told; within = answered-within radius small _ _ told }
