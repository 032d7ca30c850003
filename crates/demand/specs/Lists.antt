-- Sums over a list, and what a list gathers.
use Rattle.std.specs.Prelude.{ℕ, zero, ◌+◌, List, [], ◌∷◌, ◌++◌, eqb}
use Rattle.base.specs.Base.{pick}

module _ {A : Type 0} where
  -- the sum of g over a list
  abbrev pub tally : (A → ℕ) → List A → ℕ
  tally g [] = zero
  tally g (x ∷ xs) = g x + tally g xs

module _ {A B : Type 0} where
  -- what each element gives, one after the other
  abbrev pub gather : (A → List B) → List A → List B
  gather f [] = []
  gather f (x ∷ xs) = f x ++ gather f xs

-- how often k stands in a list
abbrev pub count : ℕ → List ℕ → ℕ
count k l = tally (λ j. pick (eqb j k) 1 0) l
