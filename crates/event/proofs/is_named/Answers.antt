-- `is_named` is `is_named`: by the tag, the test of the rank or no. Assumes nothing.
use Rattle.event.specs.Event.{is_named}
use Rattle.event.proofs.Laws.{rank_test, no_start}
use Rattle.event.proofs.is_named.Goals as goal

pub returns-then-tag_of-eq-START : goal.returns-then-tag_of-eq-START
unfolding is_named
returns-then-tag_of-eq-START c = search rank_test

pub returns-else-tag_of-eq-START : goal.returns-else-tag_of-eq-START
unfolding is_named
returns-else-tag_of-eq-START c = no_start _ _ c.tag_of.ensures c.if-tag_of-eq-START.false
