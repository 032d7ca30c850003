-- What a writer does with the list that it was lent.
use Rattle.std.specs.Prelude.{ℕ, ◌≡◌, List}
use Rattle.answers.specs.declared.Writer.{Writer}
use Rattle.answers.specs.Text.{Put}

-- a text was put into the same list, from the writer's old end to its new one
pub record Wrote (before : Writer) (text : List ℕ) (after : Writer) : Type 0 where
  pub same_list : after.out.ghost_name ≡ before.out.ghost_name
  pub put : Put before.out.now before.end text after.end after.out.now
