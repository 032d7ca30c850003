use Rattle.std.proofs.Common.{◌≡◌, ◌-◌}
use Rattle.input.specs.Input.{within, first_off}
use Rattle.input.proofs.first_outside.Given as goal

abbrev pub invariant-loop-i : goal.invariant-loop-i
invariant-loop-i l = first_off (within l.low l.high) l.list l.i (l.end - l.i) ≡ first_off (within l.low l.high) l.list l.at (l.end - l.at)
