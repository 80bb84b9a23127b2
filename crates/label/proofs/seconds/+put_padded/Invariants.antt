-- `label::seconds::put_padded` ends: it calls itself with a digit less. Assumes nothing.
use Rattle.label.proofs.seconds.+put_padded.Given as goal

abbrev pub decreases-put_padded : goal.decreases-put_padded
decreases-put_padded l = l.digits
