-- Which operator is at hand, as a theorem's statement: of all that 01 lists and that are present, none is wider.
use Rattle.std.specs.Prelude.{◌≡◌, ℕ, ◌≤◌, true, false, List, [], ◌∷◌}
use Rattle.input.specs.SyntaxKind.{AS_KW, AMP, PIPE, PLUS, MINUS, STAR, SLASH, PERCENT, CARET, EQ, L_ANGLE, R_ANGLE, MINUSEQ, NEQ, DOT2, STAREQ, SLASHEQ, AMP2, AMPEQ, PERCENTEQ, CARETEQ, PLUSEQ, SHL, LTEQ, EQ2, FAT_ARROW, GTEQ, SHR, PIPEEQ, PIPE2, DOT2EQ, SHLEQ, SHREQ}
use Rattle.input.specs.Input.{Tokens, width_of, present}
use Rattle.operators.specs.declared.Op.{Op}
use Rattle.operators.specs.TokenSet.{among}
use Rattle.operators.specs.Strength.{current_op}

-- The operators of 01, one by one and with no word of how they are found.
-- "`=` and every compound assignment 1 right; `..` `..=` 2; `||` 3; `&&` 4; `== != < > <= >=` 5; `|` 6; `^` 7; `&` 8; `<< >>` 9; `+ -` 10; `* / %` 11; `as` 12"
abbrev pub operators : List ℕ
operators =
    EQ ∷ MINUSEQ ∷ STAREQ ∷ SLASHEQ ∷ AMPEQ ∷ PERCENTEQ ∷ CARETEQ ∷ PLUSEQ ∷ PIPEEQ ∷ SHLEQ ∷ SHREQ ∷
    DOT2 ∷ DOT2EQ ∷
    PIPE2 ∷
    AMP2 ∷
    EQ2 ∷ NEQ ∷ L_ANGLE ∷ R_ANGLE ∷ LTEQ ∷ GTEQ ∷
    PIPE ∷
    CARET ∷
    AMP ∷
    SHL ∷ SHR ∷
    PLUS ∷ MINUS ∷
    STAR ∷ SLASH ∷ PERCENT ∷
    AS_KW ∷ []

-- an operator, at least as wide as a kind
pub record AsWide (kind : ℕ) (op : Op) : Type 0 where
  pub operator : 1 ≤ op.strength
  pub as_wide : width_of kind ≤ width_of op.kind

-- "longest glued form first"; "`=>` is no operator": where any operator is present, one is at hand, and none that is present is wider
abbrev pub TheLongest : Type 0
TheLongest =
    (ts : Tokens) (at kind : ℕ) → among kind operators ≡ true → present ts at kind ≡ true →
    (kind ≡ EQ → present ts at FAT_ARROW ≡ false) → AsWide kind (current_op ts at)

-- what is at hand is one of them and present, or there is none
pub record AtHand (ts : Tokens) (at : ℕ) (op : Op) : Type 0 where
  pub listed : among op.kind operators ≡ true
  pub is_present : present ts at op.kind ≡ true

abbrev pub TheOneAtHand : Type 0
TheOneAtHand = (ts : Tokens) (at : ℕ) → 1 ≤ (current_op ts at).strength → AtHand ts at (current_op ts at)
