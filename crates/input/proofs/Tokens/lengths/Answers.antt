use Rattle.std.proofs.Common.{rules}
use Rattle.base.proofs.Laws.{tests}
use Rattle.input.specs.Input.{lengths_of, token_limit}
use Rattle.input.proofs.Tokens.lengths.Goals as goal

pub returns-then-self : goal.returns-then-self
unfolding lengths_of token_limit
returns-then-self c = search (tests, rules) depth 10

pub returns : goal.returns
unfolding lengths_of token_limit
returns c = search (tests, rules) depth 10
