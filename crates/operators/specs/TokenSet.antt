-- Sets of raw kinds.
use Rattle.std.specs.Prelude.{ℕ, Bool, true, false, List, [], ◌∷◌, eqb}
use Rattle.base.specs.Base.{whether}
use Rattle.input.specs.SyntaxKind.{EOF, IDENT, INT_NUMBER, FLOAT_NUMBER, STRING, TRUE_KW, FALSE_KW, L_PAREN, R_PAREN, L_BRACK, R_BRACK, COLON, DOT, AMP, PIPE, MINUS, STAR, BANG, L_ANGLE}

-- whether a number is one of a list
abbrev pub among : ℕ → List ℕ → Bool
among k [] = false
among k (x ∷ l) = whether (eqb k x) (λ _. true) (λ _. among k l)

-- "a first token (kinds 1..6, `( [ : & | * ! . - <`)"
abbrev pub first_tokens : List ℕ
first_tokens = IDENT ∷ INT_NUMBER ∷ FLOAT_NUMBER ∷ STRING ∷ TRUE_KW ∷ FALSE_KW ∷ L_PAREN ∷ L_BRACK ∷ COLON ∷ AMP ∷ PIPE ∷ STAR ∷ BANG ∷ DOT ∷ MINUS ∷ L_ANGLE ∷ []

unfoldable pub is_first : ℕ → Bool
is_first kind = among kind first_tokens

-- "at `)` or `]` (cut) the error alone"
unfoldable pub is_closing : ℕ → Bool
is_closing kind = among kind (R_PAREN ∷ R_BRACK ∷ [])

-- no argument is read at `)` or at the end
unfoldable pub ends_arguments : ℕ → Bool
ends_arguments kind = among kind (R_PAREN ∷ EOF ∷ [])

-- "`*`, `!`, `-` take one raw token"
unfoldable pub is_prefix : ℕ → Bool
is_prefix kind = among kind (STAR ∷ BANG ∷ MINUS ∷ [])

-- "field is IDENT, INT_NUMBER or a float"
unfoldable pub is_field_name : ℕ → Bool
is_field_name kind = among kind (IDENT ∷ INT_NUMBER ∷ [])

-- refusal 7, "at: `| < : [` in atom place"
unfoldable pub outside_atom : ℕ → Bool
outside_atom kind = among kind (PIPE ∷ L_ANGLE ∷ COLON ∷ L_BRACK ∷ [])

-- refusal 7, "in type place, `& ( [ * ! < :`"
unfoldable pub outside_type : ℕ → Bool
outside_type kind = among kind (AMP ∷ L_PAREN ∷ L_BRACK ∷ STAR ∷ BANG ∷ L_ANGLE ∷ COLON ∷ [])
