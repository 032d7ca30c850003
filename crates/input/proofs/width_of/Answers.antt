use Rattle.input.proofs.Presence.{is_single, is_limited, is_width, is_row}
use Rattle.input.proofs.width_of.Goals as goal

pub row_of-requires : goal.row_of-requires
row_of-requires c = is_row _ c.is_glued.ensures c.if-is_glued.true

pub returns-then-is_glued-clause-value : goal.returns-then-is_glued-clause-value
returns-then-is_glued-clause-value c = search is_width

pub returns-then-is_glued-clause-lower_bound : goal.returns-then-is_glued-clause-lower_bound
returns-then-is_glued-clause-lower_bound c = (is_limited c.args.kind c.row_of.result.width.0 (search is_width)).1

pub returns-else-is_glued-clause-value : goal.returns-else-is_glued-clause-value
returns-else-is_glued-clause-value c = search is_single

pub returns-else-is_glued-clause-lower_bound : goal.returns-else-is_glued-clause-lower_bound
returns-else-is_glued-clause-lower_bound c = (is_limited c.args.kind 1 (search is_single)).1
