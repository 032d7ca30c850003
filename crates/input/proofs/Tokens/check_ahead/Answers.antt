use Rattle.std.proofs.Common.{◌≡◌, ◌+◌, ◌-◌, ◌∙◌, ap, arith}
use Rattle.input.specs.Input.{width_limit, bytes_of, ahead}
use Rattle.input.proofs.Checks.{none_ahead, ahead_is}
use Rattle.input.proofs.Tokens.check_ahead.Goals as goal

pub returns-then-len-at : goal.returns-then-len-at
returns-then-len-at c = none_ahead c.args.self.now c.args.at (omega (arith, c.if-len-at.true, c.len.ensures.value))

pub returns : goal.returns
unfolding width_limit
returns c =
    let n : c.args.at + c.min.result - c.args.at ≡ ahead c.args.self.now c.args.at =
    omega (arith, c.min.ensures, c.len-2.ensures.value, ahead_is c.args.self.now c.args.at) in
    c.check_bytes.ensures ∙ ap (bytes_of c.args.self.now c.args.at) n
