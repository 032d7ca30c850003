-- `process` is `process_of`, one law for each answer. Assumes nothing.
use Rattle.std.proofs.Common.{rules}
use Rattle.process.proofs.Laws.{unsound, too_many, passed}
use Rattle.process.proofs.process.Goals as goal

pub returns-then-not-sound : goal.returns-then-not-sound
returns-then-not-sound c = search (unsound, rules)

pub returns-then-steps-count_steps : goal.returns-then-steps-count_steps
returns-then-steps-count_steps c = search (too_many, rules)

pub returns : goal.returns
returns c =
    passed _ _ _ c.sound.ensures.value c.if-not-sound.false c.count_steps.ensures c.if-steps-count_steps.false c.write-written.ensures c.write-written.new.events (search rules) c.clear.ensures c.fresh.ensures
