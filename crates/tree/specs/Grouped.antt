-- Trees that group as the table of the Rust Reference says.
use Rattle.std.specs.Prelude.{ℕ, ◌≤◌, ◌<◌, ◌≡◌, true, false, List, [], ◌∷◌}
use Rattle.input.specs.SyntaxKind.{EOF, IDENT, INT_NUMBER, FLOAT_NUMBER, STRING, TRUE_KW, FALSE_KW, AS_KW, STAR, MINUS, BANG, DOT2, DOT2EQ}
use Rattle.input.specs.Input.{Tokens, present}
use Rattle.tree.specs.Tree.{Tree, literal, name, paren, prefix, borrowed, borrowed_mut, binary, cast, bare, up_to, from, between, call, index, try, field, method, await, two_fields, lone, Stem, dotted, pointed, Args, nothing, last, more}
use Rattle.tree.specs.Table.{Associativity, unsaid, left_to_right, right_to_left, require_parentheses, holds, place, side, paths, method_calls, field_expressions, calls_and_indexing, question_mark, unary}

-- The row of the table that a tree's outermost form stands in: the smaller the tighter. Literals and parentheses, which the table leaves out, hold together as paths do; `.await` stands with fields.
unfoldable pub rank : Tree → ℕ
rank (literal kind) = paths
rank (name n) = paths
rank (paren t) = paths
rank (prefix op t) = unary
rank (borrowed t) = unary
rank (borrowed_mut t) = unary
rank (binary op l r) = place op
rank (cast l n) = place AS_KW
rank (bare op) = place DOT2
rank (up_to op r) = place DOT2
rank (from op l) = place DOT2
rank (between op l r) = place DOT2
rank (call t args) = calls_and_indexing
rank (index t i) = calls_and_indexing
rank (try t) = question_mark
rank (field s kind) = field_expressions
rank (method s args) = method_calls
rank (await s) = field_expressions
rank (two_fields s) = field_expressions
rank (lone s) = field_expressions

-- What the associativity column asks of an operator's operands, of row i the operator and j the operand. Left to right: the left operand may hold an operator of the same row, the right one may not. Where the Reference requires parentheses we read a chain to the left.
abbrev pub LeftFits : Associativity → ℕ → ℕ → Type 0
LeftFits unsaid i j = ⊥
LeftFits left_to_right i j = j ≤ i
LeftFits require_parentheses i j = j ≤ i
LeftFits right_to_left i j = j < i

abbrev pub RightFits : Associativity → ℕ → ℕ → Type 0
RightFits unsaid i j = ⊥
RightFits left_to_right i j = j < i
RightFits require_parentheses i j = j < i
RightFits right_to_left i j = j ≤ i

abbrev pub FitsLeft : ℕ → Tree → Type 0
FitsLeft op l = LeftFits (side op) (place op) (rank l)

abbrev pub FitsRight : ℕ → Tree → Type 0
FitsRight op r = RightFits (side op) (place op) (rank r)

-- an operator between two operands: one of a row below `as` (ranges have trees of their own)
abbrev pub IsBinary : ℕ → Type 0
IsBinary op = (place AS_KW < place op) × (place op ≡ place DOT2 → ⊥)

-- "never a binary expression or a cast"; "never a prefix, cast or binary expression unless in parentheses"
abbrev pub NoOperator : Tree → Type 0
NoOperator t = rank t ≤ unary

abbrev pub NoPrefix : Tree → Type 0
NoPrefix t = rank t < unary

-- the name of a field; 0 for what is none
unfoldable pub field_name : Tree → ℕ
field_name (field s kind) = kind
field_name (literal kind) = EOF
field_name (name n) = EOF
field_name (paren t) = EOF
field_name (prefix op t) = EOF
field_name (borrowed t) = EOF
field_name (borrowed_mut t) = EOF
field_name (binary op l r) = EOF
field_name (cast l n) = EOF
field_name (bare op) = EOF
field_name (up_to op r) = EOF
field_name (from op l) = EOF
field_name (between op l r) = EOF
field_name (call t args) = EOF
field_name (index t i) = EOF
field_name (try t) = EOF
field_name (method s args) = EOF
field_name (await s) = EOF
field_name (two_fields s) = EOF
field_name (lone s) = EOF

-- `t . name ( args )` is a method call, which the table puts above fields: what is called is no field with an IDENT
abbrev pub NoMethod : Tree → Type 0
NoMethod t = field_name t ≡ IDENT → ⊥

abbrev pub literals : List ℕ
literals = INT_NUMBER ∷ FLOAT_NUMBER ∷ STRING ∷ TRUE_KW ∷ FALSE_KW ∷ []

abbrev pub prefixes : List ℕ
prefixes = STAR ∷ BANG ∷ MINUS ∷ []

abbrev pub ranges : List ℕ
ranges = DOT2 ∷ DOT2EQ ∷ []

abbrev pub names : List ℕ
names = IDENT ∷ INT_NUMBER ∷ []

-- Each operand binds at least as tightly as the table and its associativity ask; a prefix operand is never a binary expression or a cast; what stands before a call, an index, a field, a method, `?` or `.await` is never a prefix, cast or binary expression unless in parentheses.
unfoldable mutual
  pub Grouped : Tree → Type 0
  Grouped (literal kind) = holds kind literals ≡ true
  Grouped (name n) = Unit {0}
  Grouped (paren t) = Grouped t
  Grouped (prefix op t) = (holds op prefixes ≡ true) × NoOperator t × Grouped t
  Grouped (borrowed t) = NoOperator t × Grouped t
  Grouped (borrowed_mut t) = NoOperator t × Grouped t
  Grouped (binary op l r) = IsBinary op × FitsLeft op l × FitsRight op r × Grouped l × Grouped r
  Grouped (cast l n) = FitsLeft AS_KW l × Grouped l
  Grouped (bare op) = holds op ranges ≡ true
  Grouped (up_to op r) = (holds op ranges ≡ true) × FitsRight DOT2 r × Grouped r
  Grouped (from op l) = (holds op ranges ≡ true) × FitsLeft DOT2 l × Grouped l
  Grouped (between op l r) = (holds op ranges ≡ true) × FitsLeft DOT2 l × FitsRight DOT2 r × Grouped l × Grouped r
  Grouped (call t args) = NoPrefix t × NoMethod t × Grouped t × GroupedArgs args
  Grouped (index t i) = NoPrefix t × Grouped t × Grouped i
  Grouped (try t) = NoPrefix t × Grouped t
  Grouped (field s kind) = (holds kind names ≡ true) × GroupedStem s
  Grouped (method s args) = GroupedStem s × GroupedArgs args
  Grouped (await s) = GroupedStem s
  Grouped (two_fields s) = GroupedStem s
  -- (read only before a range: its name is missing)
  Grouped (lone s) = ⊥

  pub GroupedStem : Stem → Type 0
  GroupedStem (dotted t) = NoPrefix t × Grouped t
  GroupedStem (pointed s) = GroupedStem s

  pub GroupedArgs : Args → Type 0
  GroupedArgs nothing = Unit {0}
  GroupedArgs (last t) = Grouped t
  GroupedArgs (more t args) = Grouped t × GroupedArgs args

-- a list without `..` and `..=`: nowhere two joint dots
abbrev pub NoRanges : Tokens → Type 0
NoRanges ts = (i : ℕ) → present ts i DOT2 ≡ false
