-- What the answers of the reader mean, as trees: the statements that proofs/Theorem.antt proves.
use Rattle.std.specs.Prelude.{Ok, ℕ, ◌<◌, ◌≡◌, List, [], ◌∷◌, take}
use Rattle.input.specs.SyntaxKind.{FAULT}
use Rattle.input.specs.Input.{Tokens}
use Rattle.reader.specs.Reader.{parse_of}
use Rattle.tree.specs.Tree.{Tree, leaves, raws, Covers, flat}
use Rattle.tree.specs.Grouped.{Grouped, NoRanges}

-- no step is an error: "error 327,680 + code", and every other step is below
abbrev pub NoErrors : List ℕ → Type 0
NoErrors [] = Unit {0}
NoErrors (x ∷ l) = (x < FAULT) × NoErrors l

-- a tree over the tokens consumed
pub record Over (ts : Tokens) (consumed : ℕ) (t : Tree) : Type 0 where
  -- its leaves stand in the list one after the other, from its start to what was consumed: each token present where it stands
  pub covers : Covers ts 0 (leaves t) consumed
  -- and their raw kinds are those consumed, in order
  pub in_order : raws (leaves t) ≡ take consumed ts.kinds

-- an answer of the reader that is not refused and holds no error step: what was consumed, and the steps
pub record Answer (ts : Tokens) (consumed : ℕ) (steps : List ℕ) : Type 0 where
  pub events : List ℕ
  pub room : List ℕ
  pub many : ℕ
  pub events' : List ℕ
  pub room' : List ℕ
  pub is_read : parse_of ts events room ≡ (Ok (record { consumed = consumed; steps = many }), events', room')
  pub are_steps : steps ≡ take many room'
  pub no_errors : NoErrors steps

-- "Every answer of the reader that is not refused and holds no error step is `flat` of one tree, whose leaves are the tokens consumed, in order." One: no other tree over them has these steps.
abbrev pub EveryAnswerIsATree : Type 0
EveryAnswerIsATree = (ts : Tokens) (consumed : ℕ) (steps : List ℕ) → Answer ts consumed steps → (t : Tree) × (steps ≡ flat t) × Over ts consumed t × ((t' : Tree) → steps ≡ flat t' → Over ts consumed t' → t' ≡ t)

-- "no other tree over the same tokens (same leaves, same parentheses) groups so"
abbrev pub Only : Tree → Type 0
Only t = (t' : Tree) → leaves t' ≡ leaves t → Grouped t' → t' ≡ t

-- the steps are those of the tree, it stands over the tokens consumed, it groups as the table says, and no other does
pub record GroupedTree (ts : Tokens) (consumed : ℕ) (steps : List ℕ) (t : Tree) : Type 0 where
  pub is_flat : steps ≡ flat t
  pub over : Over ts consumed t
  pub groups : Grouped t
  pub only : Only t

-- "for every token list without `..` and `..=` (no two joint dots) that is read without error and refusal, the tree groups as that table says"
abbrev pub GroupsAsTheTable : Type 0
GroupsAsTheTable = (ts : Tokens) (consumed : ℕ) (steps : List ℕ) → Answer ts consumed steps → NoRanges ts → (t : Tree) × GroupedTree ts consumed steps t

-- the same of every list, which is false: P8
abbrev pub GroupsWithRangesToo : Type 0
GroupsWithRangesToo = (ts : Tokens) (consumed : ℕ) (steps : List ℕ) → Answer ts consumed steps → (t : Tree) × (steps ≡ flat t) × Over ts consumed t × Grouped t
