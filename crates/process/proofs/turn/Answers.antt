-- A start's turn of `process_turn`; the other goals follow by the laws that `turn` names. Assumes nothing.
use Rattle.std.proofs.Common.{rules}
use Rattle.process.proofs.Laws.{turn_start}
use Rattle.process.proofs.turn.Goals as goal

pub returns-then-tag_of-eq-START-clause-steps_after : goal.returns-then-tag_of-eq-START-clause-steps_after
returns-then-tag_of-eq-START-clause-steps_after c = search (turn_start, rules)
