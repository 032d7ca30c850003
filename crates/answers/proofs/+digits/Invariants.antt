-- The number of places falls at each call. Assumes nothing.
use Rattle.answers.proofs.+digits.Given as goal

abbrev pub decreases-digits : goal.decreases-digits
decreases-digits l = l.most
