-- The table of expression precedence of the Rust Reference, in its order and words, strong to weak. It stands apart from the strengths of document 01.
use Rattle.std.specs.Prelude.{ℕ, suc, Bool, true, false, List, [], ◌∷◌, ◌≡◌, refl, get_or, eqb}
use Rattle.base.specs.Base.{whether}
use Rattle.input.specs.SyntaxKind.{AS_KW, AMP, PIPE, PLUS, MINUS, STAR, SLASH, PERCENT, CARET, EQ, L_ANGLE, R_ANGLE, MINUSEQ, NEQ, DOT2, STAREQ, SLASHEQ, AMP2, AMPEQ, PERCENTEQ, CARETEQ, PLUSEQ, SHL, LTEQ, EQ2, GTEQ, SHR, PIPEEQ, PIPE2, DOT2EQ, SHLEQ, SHREQ}

-- the associativity column
pub data Associativity : Type 0 where
  unsaid left_to_right right_to_left require_parentheses : Associativity

-- the operator/expression column: a form that the Reference names by words, or the operators of a row
pub data Entry : Type 0 where
  Paths MethodCalls FieldExpressions FunctionCallsArrayIndexing QuestionMark Unary ReturnBreakClosures : Entry
  operators : List ℕ → Entry

pub record Row : Type 0 where
  pub entry : Entry
  pub associativity : Associativity

abbrev row : Entry → Associativity → Row
row e a = record { entry = e; associativity = a }

unfoldable pub table : List Row
table =
    -- Paths
    row Paths unsaid ∷
    -- Method calls
    row MethodCalls unsaid ∷
    -- Field expressions: left to right
    row FieldExpressions left_to_right ∷
    -- Function calls, array indexing
    row FunctionCallsArrayIndexing unsaid ∷
    -- ?
    row QuestionMark unsaid ∷
    -- Unary - ! * borrow
    row Unary unsaid ∷
    -- as: left to right
    row (operators (AS_KW ∷ [])) left_to_right ∷
    -- * / %: left to right
    row (operators (STAR ∷ SLASH ∷ PERCENT ∷ [])) left_to_right ∷
    -- + -: left to right
    row (operators (PLUS ∷ MINUS ∷ [])) left_to_right ∷
    -- << >>: left to right
    row (operators (SHL ∷ SHR ∷ [])) left_to_right ∷
    -- &: left to right
    row (operators (AMP ∷ [])) left_to_right ∷
    -- ^: left to right
    row (operators (CARET ∷ [])) left_to_right ∷
    -- |: left to right
    row (operators (PIPE ∷ [])) left_to_right ∷
    -- == != < > <= >=: require parentheses
    row (operators (EQ2 ∷ NEQ ∷ L_ANGLE ∷ R_ANGLE ∷ LTEQ ∷ GTEQ ∷ [])) require_parentheses ∷
    -- &&: left to right
    row (operators (AMP2 ∷ [])) left_to_right ∷
    -- ||: left to right
    row (operators (PIPE2 ∷ [])) left_to_right ∷
    -- .. ..=: require parentheses
    row (operators (DOT2 ∷ DOT2EQ ∷ [])) require_parentheses ∷
    -- = += -= *= /= %= &= |= ^= <<= >>=: right to left
    row (operators (EQ ∷ PLUSEQ ∷ MINUSEQ ∷ STAREQ ∷ SLASHEQ ∷ PERCENTEQ ∷ AMPEQ ∷ PIPEEQ ∷ CARETEQ ∷ SHLEQ ∷ SHREQ ∷ [])) right_to_left ∷
    -- return break closures
    row ReturnBreakClosures unsaid ∷ []

unfoldable pub holds : ℕ → List ℕ → Bool
holds k [] = false
holds k (x ∷ l) = whether (eqb k x) (λ _. true) (λ _. holds k l)

unfoldable pub has_operator : ℕ → Entry → Bool
has_operator k (operators l) = holds k l
has_operator k Paths = false
has_operator k MethodCalls = false
has_operator k FieldExpressions = false
has_operator k FunctionCallsArrayIndexing = false
has_operator k QuestionMark = false
has_operator k Unary = false
has_operator k ReturnBreakClosures = false

-- the number of an operator's row, from 0, the strongest, on: the smaller the tighter; the number of rows for what is no operator of the table
unfoldable pub place_in : ℕ → List Row → ℕ
place_in op [] = 0
place_in op (r ∷ l) = whether (has_operator op r.entry) (λ _. 0) (λ _. suc (place_in op l))

unfoldable pub place : ℕ → ℕ
place op = place_in op table

-- and its associativity
unfoldable pub side_in : ℕ → List Row → Associativity
side_in op [] = unsaid
side_in op (r ∷ l) = whether (has_operator op r.entry) (λ _. r.associativity) (λ _. side_in op l)

unfoldable pub side : ℕ → Associativity
side op = side_in op table

-- the numbers of the rows that the Reference names by words
abbrev pub paths : ℕ
paths = 0

abbrev pub method_calls : ℕ
method_calls = 1

abbrev pub field_expressions : ℕ
field_expressions = 2

abbrev pub calls_and_indexing : ℕ
calls_and_indexing = 3

abbrev pub question_mark : ℕ
question_mark = 4

abbrev pub unary : ℕ
unary = 5

-- they are
abbrev entry_at : ℕ → Entry
entry_at n = (get_or table n (row Paths unsaid)).entry

pub record Named : Type 0 where
  pub is_paths : entry_at paths ≡ Paths
  pub is_method_calls : entry_at method_calls ≡ MethodCalls
  pub is_field_expressions : entry_at field_expressions ≡ FieldExpressions
  pub is_calls_and_indexing : entry_at calls_and_indexing ≡ FunctionCallsArrayIndexing
  pub is_question_mark : entry_at question_mark ≡ QuestionMark
  pub is_unary : entry_at unary ≡ Unary

pub named : Named
unfolding table
named = record { is_paths = refl; is_method_calls = refl; is_field_expressions = refl; is_calls_and_indexing = refl; is_question_mark = refl; is_unary = refl }
