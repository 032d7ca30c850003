-- Tokens lent, the glued tokens, and the checks of a token list.
use Rattle.std.specs.Prelude.{Result, Ok, Err}
use Rattle.std.specs.Prelude.{ℕ, zero, suc, ◌+◌, ◌-◌, Bool, true, false, List, [], ◌∷◌, length, get_or, ltb, leb, eqb}
use Rattle.base.specs.Base.{whether, bound}
use Rattle.input.specs.SyntaxKind.{EOF, IDENT, QUESTION, COLON, DOT, AMP, PIPE, PLUS, MINUS, STAR, SLASH, PERCENT, CARET, BANG, EQ, L_ANGLE, R_ANGLE, MINUSEQ, THIN_ARROW, COLON2, NEQ, DOT2, STAREQ, SLASHEQ, AMP2, AMPEQ, PERCENTEQ, CARETEQ, PLUSEQ, SHL, LTEQ, EQ2, FAT_ARROW, GTEQ, SHR, PIPEEQ, PIPE2, DOT3, DOT2EQ, SHLEQ, SHREQ, ERROR, PATH_TYPE, EXPECTED_EXPRESSION, EXPECTED_COMMA, BAD_KIND, BAD_JOINT, BAD_LENGTH}
pub use Rattle.input.specs.Lent.{Tokens}
use Rattle.input.specs.declared.Glued.{Glued}
use Rattle.input.specs.declared.Refusal.{Refusal}

-- "The limits 4,096, 128 and 3 are each named once, beside the kind of number they limit."
unfoldable pub token_limit : ℕ
token_limit = 4096

unfoldable pub depth_limit : ℕ
depth_limit = 128

unfoldable pub width_limit : ℕ
width_limit = 3

abbrev pub lent : List ℕ → List ℕ → Tokens
lent ks js = record { kinds = ks; joints = js }

-- "Past the end the kind is 0 (EOF)."
abbrev pub kind_at : Tokens → ℕ → ℕ
kind_at ts at = get_or ts.kinds at EOF

-- "A joint 1 means the next token touches this one; on FLOAT_NUMBER, that digits follow the dot (`0.1`, not `0.`)."
abbrev pub joint_at : Tokens → ℕ → ℕ
joint_at ts at = get_or ts.joints at 0

-- a raw kind stands at a position of the list
unfoldable pub stands : Tokens → ℕ → ℕ → Bool
stands ts at kind = whether (ltb at (length ts.kinds)) (λ _. eqb (get_or ts.kinds at EOF) kind) (λ _. false)

-- a raw kind stands at a position, and the next token touches it
unfoldable pub stands_joint : Tokens → ℕ → ℕ → Bool
stands_joint ts at kind = whether (stands ts at kind) (λ _. bound (joint_at ts at) λ joint. eqb joint 1) (λ _. false)

-- a number is low..high
abbrev pub within : ℕ → ℕ → ℕ → Bool
within low high byte = whether (leb low byte) (λ _. leb byte high) (λ _. false)

-- "The 24 glued tokens are one table of rows (kind, raw parts)"
abbrev two : ℕ → ℕ → ℕ → Glued
two kind first second = record { kind = kind; width = record { 0 = 2 }; first = first; second = second; third = EOF }

abbrev three : ℕ → ℕ → ℕ → ℕ → Glued
three kind first second third = record { kind = kind; width = record { 0 = 3 }; first = first; second = second; third = third }

-- "40 to 63 in order `-=` `->` `::` `!=` `..` `*=` `/=` `&&` `&=` `%=` `^=` `+=` `<<` `<=` `==` `=>` `>=` `>>` `|=` `||` `...` `..=` `<<=` `>>=`."
unfoldable pub glued_table : List Glued
glued_table =
    two MINUSEQ MINUS EQ ∷
    two THIN_ARROW MINUS R_ANGLE ∷
    two COLON2 COLON COLON ∷
    two NEQ BANG EQ ∷
    two DOT2 DOT DOT ∷
    two STAREQ STAR EQ ∷
    two SLASHEQ SLASH EQ ∷
    two AMP2 AMP AMP ∷
    two AMPEQ AMP EQ ∷
    two PERCENTEQ PERCENT EQ ∷
    two CARETEQ CARET EQ ∷
    two PLUSEQ PLUS EQ ∷
    two SHL L_ANGLE L_ANGLE ∷
    two LTEQ L_ANGLE EQ ∷
    two EQ2 EQ EQ ∷
    two FAT_ARROW EQ R_ANGLE ∷
    two GTEQ R_ANGLE EQ ∷
    two SHR R_ANGLE R_ANGLE ∷
    two PIPEEQ PIPE EQ ∷
    two PIPE2 PIPE PIPE ∷
    three DOT3 DOT DOT DOT ∷
    three DOT2EQ DOT DOT EQ ∷
    three SHLEQ L_ANGLE L_ANGLE EQ ∷
    three SHREQ R_ANGLE R_ANGLE EQ ∷ []

abbrev pub no_row : Glued
no_row = record { kind = 0; width = record { 0 = 0 }; first = 0; second = 0; third = 0 }

-- the row of a glued kind
unfoldable pub row_of : ℕ → Glued
row_of kind = get_or glued_table (kind - MINUSEQ) no_row

unfoldable pub is_glued : ℕ → Bool
is_glued kind = within MINUSEQ SHREQ kind

-- the raw parts of a row, two or three
unfoldable pub row_parts : Glued → List ℕ
row_parts row = whether (eqb row.width.0 2) (λ _. row.first ∷ row.second ∷ []) (λ _. row.first ∷ row.second ∷ row.third ∷ [])

-- the raw parts of a kind: a raw kind is its own part
unfoldable pub parts_of : ℕ → List ℕ
parts_of kind = whether (is_glued kind) (λ _. row_parts (row_of kind)) (λ _. kind ∷ [])

-- the raw width of a kind
unfoldable pub width_of : ℕ → ℕ
width_of kind = length (parts_of kind)

-- "A glued token is present when its parts follow one another, all but the last joint."
unfoldable pub follow : Tokens → ℕ → List ℕ → Bool
follow ts at [] = true
follow ts at (a ∷ []) = stands ts at a
follow ts at (a ∷ b ∷ parts) =
    whether (stands ts at a) (λ _. whether (eqb (joint_at ts at) 1) (λ _. follow ts (at + 1) (b ∷ parts)) (λ _. false)) (λ _. false)

-- a kind, raw or glued, is present at a position
unfoldable pub present : Tokens → ℕ → ℕ → Bool
present ts at kind = follow ts at (parts_of kind)

-- "a kind is not 1..29", "a joint byte is above 1"
unfoldable pub is_raw : ℕ → Bool
is_raw kind = within IDENT QUESTION kind

unfoldable pub is_joint : ℕ → Bool
is_joint joint = within 0 1 joint

-- "take kind, 1..29 or 40..63"; "node 80..99"; "code 1..7"
unfoldable pub is_kind : ℕ → Bool
is_kind kind = whether (is_raw kind) (λ _. true) (λ _. is_glued kind)

unfoldable pub is_node : ℕ → Bool
is_node node = within ERROR PATH_TYPE node

unfoldable pub is_code : ℕ → Bool
is_code code = within EXPECTED_EXPRESSION EXPECTED_COMMA code

-- the "first such index" among so many entries from a position on; the index behind them where there is none
unfoldable pub first_off : (ℕ → Bool) → List ℕ → ℕ → ℕ → ℕ
first_off fine l at zero = at
first_off fine l at (suc k) = whether (fine (get_or l at 0)) (λ _. first_off fine l (at + 1) k) (λ _. at)

abbrev pub refusal : ℕ → ℕ → Refusal
refusal number place = record { number = number; place = place }

-- what a check of tokens says
abbrev pub Checked : Type 0
Checked = Result (Unit {0}) Refusal

-- 3: "lists of unequal length, or n above 4,096", place 0
unfoldable pub lengths_of : Tokens → Checked
lengths_of ts =
    whether (eqb (length ts.kinds) (length ts.joints))
    (λ _. whether (leb (length ts.kinds) token_limit) (λ _. Ok tt) (λ _. Err (refusal BAD_LENGTH 0)))
    (λ _. Err (refusal BAD_LENGTH 0))

-- 1, then 2, each at its "first such index", looking at k tokens from a position on
unfoldable pub bytes_of : Tokens → ℕ → ℕ → Checked
bytes_of ts at k =
    bound (first_off is_raw ts.kinds at k) λ i.
    whether (ltb i (at + k)) (λ _. Err (refusal BAD_KIND i)) λ _.
    bound (first_off is_joint ts.joints at k) λ j.
    whether (ltb j (at + k)) (λ _. Err (refusal BAD_JOINT j)) (λ _. Ok tt)

unfoldable pub on_checked : {A : Type 0} → Checked → (Unit {0} → A) → (Refusal → A) → A
on_checked (Ok _) fine refused = fine tt
on_checked (Err r) fine refused = refused r

-- the checks of a whole list, in the order 3, 1, 2
unfoldable pub tokens_of : Tokens → Checked
tokens_of ts = on_checked (lengths_of ts) (λ _. bytes_of ts 0 (length ts.kinds)) Err

-- "looking only at the (up to three) tokens from the position on"
unfoldable pub ahead : Tokens → ℕ → ℕ
ahead ts at = bound (length ts.kinds - at) λ left. whether (ltb left width_limit) (λ _. left) (λ _. width_limit)
