-- Every byte of the buffer is 0: it is made of one byte. Assumes nothing.
use lib.ListN.{get_or-replicate, length-replicate}
use Rattle.streams.proofs.large_buffer.Goals as goal

pub returns-clause-zeros : goal.returns-clause-zeros
returns-clause-zeros g c = λ k d h. get_or-replicate g.row.N k 0 d (rw length-replicate at h)
