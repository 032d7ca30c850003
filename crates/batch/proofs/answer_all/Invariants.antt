-- The bytes that are read and unused stand in the buffer, which keeps its length. Assumes nothing.
use Rattle.std.proofs.Common.{◌≡◌, ◌≤◌, length}
use Rattle.batch.proofs.answer_all.Given as goal

abbrev pub invariant-loop : goal.invariant-loop
invariant-loop g l = (l.run.from ≤ l.run.to) × (l.run.to ≤ length l.buf) × (length l.buf ≡ length l.initial.buf)
