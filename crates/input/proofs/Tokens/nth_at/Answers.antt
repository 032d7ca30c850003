use Rattle.std.proofs.Common.{rules}
use Rattle.input.proofs.Presence.{is_present, is_stood, is_row}
use Rattle.input.proofs.Tokens.nth_at.Goals as goal

pub row_of-requires : goal.row_of-requires
row_of-requires c = is_row _ c.is_glued.ensures c.if-is_glued.true

pub returns-then-is_glued-clause-value : goal.returns-then-is_glued-clause-value
returns-then-is_glued-clause-value c = search (is_present, is_stood) depth 8

pub returns-clause-value : goal.returns-clause-value
returns-clause-value c = search (is_present, is_stood, rules) depth 8
