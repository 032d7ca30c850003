-- The reader is lent the first entries of both lists. Assumes nothing.
use Rattle.base.proofs.Laws.{bound_is}
use Rattle.answers.specs.Answers.{form_answer}
use Rattle.answers.proofs.Laws.{lent_is}
use Rattle.answers.proofs.parse_form.Goals as goal

pub returns : goal.returns
unfolding form_answer
returns c =
    let read = rw c.new.ensures at c.parse.ensures in
    search (lent_is, bound_is) depth 10
