-- The tokens lent, as contracts see them.
use Rattle.std.specs.Prelude.{ℕ, List}

-- "Input: two byte lists of equal length n, at most 4,096: kinds, and joint bytes 0 or 1."
pub record Tokens : Type 0 where
  pub kinds : List ℕ
  pub joints : List ℕ
