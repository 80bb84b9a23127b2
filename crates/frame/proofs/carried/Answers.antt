-- `frame::carried` meets its contract. Assumes nothing.
use Rattle.frame.specs.Frame.{service_in}
use Rattle.frame.proofs.carried.Goals as goal

pub returns-in-A : goal.returns-in-A
unfolding service_in
returns-in-A c = rw c.in-A.is

pub returns-in-B : goal.returns-in-B
unfolding service_in
returns-in-B c = rw c.in-B.is
