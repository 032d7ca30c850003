-- What was put so far is the text up to the index. Assumes nothing.
use Rattle.std.proofs.Common.{take}
use Rattle.answers.specs.Text.{Put}
use Rattle.answers.proofs.word.Given as goal

abbrev pub invariant-loop-b : goal.invariant-loop-b
invariant-loop-b l = Put l.initial.out l.at (take l.b-index l.text) l.end l.out
