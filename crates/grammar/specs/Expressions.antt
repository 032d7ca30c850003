-- The rules of expressions. Each takes the reading of an inner expression, `read`, whose depth is one less.
use Rattle.std.specs.Prelude.{ℕ, zero, suc, ◌+◌, ◌*◌, Bool, true, false, length, ltb, eqb}
use Rattle.base.specs.Base.{whether, bound, Next, again, done}
use Rattle.input.specs.SyntaxKind.{IDENT, FLOAT_NUMBER, AS_KW, MUT_KW, AWAIT_KW, L_PAREN, R_PAREN, L_BRACK, R_BRACK, COMMA, DOT, AMP, QUESTION, COLON2, DOT2, DOT2EQ, LITERAL, PATH_EXPR, NAME_REF, PAREN_EXPR, REF_EXPR, PREFIX_EXPR, BIN_EXPR, RANGE_EXPR, CALL_EXPR, ARG_LIST, INDEX_EXPR, METHOD_CALL_EXPR, FIELD_EXPR, AWAIT_EXPR, TRY_EXPR, EXPECTED_METHOD_NAME, EXPECTED_FIELD, EXPECTED_R_PAREN, EXPECTED_R_BRACK, EXPECTED_COMMA, OUTSIDE_CUT, TOO_DEEP, UNFIT}
use Rattle.input.specs.Input.{Tokens, kind_at, joint_at, present}
use Rattle.parser.specs.declared.Marker.{Marker}
use Rattle.parser.specs.declared.CompletedMarker.{CompletedMarker}
use Rattle.parser.specs.Prog.{Prog, give, refuse, look, start, complete, abandon, precede, extend, eat, error, split, then, turns, Perhaps, some, none}
use Rattle.operators.specs.declared.Op.{Op}
use Rattle.operators.specs.TokenSet.{is_first, ends_arguments, is_prefix, is_field_name, outside_atom}
use Rattle.operators.specs.Strength.{current_op, right_of, is_range, operand_follows}
use Rattle.atoms.specs.Atom.{Part, Node, bump, begin, lead, closing, leaf, err_and_bump, err_recover, Turning, turning, path_node, cast_expr}

-- a reading: an expression's node, or none
abbrev pub Rule : Type 0
Rule = Prog (Perhaps CompletedMarker)

-- what stands: a node as a reading
unfoldable pub yields : Node → Rule
yields p = then p λ m. give (some m)

-- goes on with an expression; "A reading that yields no expression ends the surrounding rule at once"
unfoldable pub given : Rule → (CompletedMarker → Rule) → Rule
given p k = then p (elim [ some m ↦ k m | none ↦ give none ])

-- the marker of a reading that yields no expression is abandoned
unfoldable pub given_up : Marker → Rule
given_up o = abandon o (give none)

-- "Read the left part and extend it to the marker."
unfoldable pub extend_to : Rule → Marker → Rule
extend_to p o = then p (elim [ some m ↦ extend m o λ m'. give (some m') | none ↦ given_up o ])

-- "A lone `.` as atom does the same."
unfoldable pub lone_dot : Tokens → Rule
lone_dot ts = then (err_recover ts) λ _. give none

-- goes on whether there is an expression or not
unfoldable pub anyway : {A : Type 0} → Rule → Prog A → Prog A
anyway p q = then p λ _. q

-- "Arguments: a `,` where an expression should be is an ERROR node with error 1 and the comma; a missing `,` before a first token is error 7 and reading goes on; otherwise `)` is expected."
unfoldable pub lone_comma : Prog (Next (Unit {0}) (Unit {0}))
lone_comma = then err_and_bump λ _. give (again tt)

unfoldable pub no_comma : Tokens → Prog (Next (Unit {0}) (Unit {0}))
no_comma ts = look λ at. bound (kind_at ts at) λ kind. whether (is_first kind) (λ _. error EXPECTED_COMMA (give (again tt))) (λ _. give (done tt))

unfoldable pub after_argument : Tokens → Prog (Next (Unit {0}) (Unit {0}))
after_argument ts = eat COMMA (give (again tt)) (no_comma ts)

module _ (ts : Tokens) (read : ℕ → Rule) where
  unfoldable pub argument : Prog (Next (Unit {0}) (Unit {0}))
  argument =
      look λ at.
      bound (kind_at ts at) λ kind.
      whether (ends_arguments kind) (λ _. give (done tt)) λ _.
      whether (eqb kind COMMA) (λ _. lone_comma) λ _.
      then (read 1) (elim [ some m ↦ after_argument ts | none ↦ give (done tt) ])

  unfoldable pub arguments : Part
  arguments = turns (suc (length ts.kinds)) (λ _. argument) tt

  unfoldable pub arg_list : Node
  arg_list = then (begin L_PAREN) λ o. then arguments λ _. closing R_PAREN EXPECTED_R_PAREN o ARG_LIST

  -- "postfix forms `(`, `[`, `.`, `?` as in document 000"
  unfoldable pub call_expr : CompletedMarker → Node
  call_expr m = precede m λ o. then arg_list λ _. complete o CALL_EXPR give

  unfoldable pub index_expr : CompletedMarker → Node
  index_expr m = then (lead m L_BRACK) λ o. anyway (read 1) (closing R_BRACK EXPECTED_R_BRACK o INDEX_EXPR)

unfoldable pub try_expr : CompletedMarker → Node
try_expr m = then (lead m QUESTION) λ o. complete o TRY_EXPR give

-- "An ending dot goes on with the next name as if its dot had been read": the dot is taken unless a float's was
unfoldable pub dotted : Bool → CompletedMarker → Prog Marker
dotted recovery m = whether recovery (λ _. precede m give) (λ _. lead m DOT)

unfoldable pub await_expr : Bool → CompletedMarker → Node
await_expr recovery m = then (dotted recovery m) λ o. then (bump AWAIT_KW) λ _. complete o AWAIT_EXPR give

-- "method name is IDENT"; refusal 7 at "`::` .. after a method name"
unfoldable pub no_generics : Tokens → Part
no_generics ts = look λ at. whether (present ts at COLON2) (λ _. refuse OUTSIDE_CUT at) (λ _. give tt)

unfoldable pub method_name : Tokens → Part
method_name ts =
    look λ at.
    bound (kind_at ts at) λ kind.
    whether (eqb kind IDENT)
    (λ _. then (leaf NAME_REF) λ _. no_generics ts)
    (λ _. error EXPECTED_METHOD_NAME (give tt))

unfoldable pub method_head : Tokens → Bool → CompletedMarker → Prog Marker
method_head ts recovery m = then (dotted recovery m) λ o. then (method_name ts) λ _. give o

-- "field is IDENT, INT_NUMBER or a float"
abbrev pub Turned : Type 0
Turned = Prog (Next (CompletedMarker × Bool) CompletedMarker)

-- goes on after a node, with its dot still to be read
unfoldable pub onward : Node → Turned
onward p = then p λ m. give (again (m, false))

unfoldable pub float_field : Tokens → Marker → Turned
float_field ts o = look λ at. bound (joint_at ts at) λ joint. split o (λ m. give (again (m, eqb joint 0))) (refuse UNFIT 0)

unfoldable pub named_field : Marker → Node
named_field o = then (leaf NAME_REF) λ _. complete o FIELD_EXPR give

unfoldable pub no_field : Marker → Node
no_field o = error EXPECTED_FIELD (complete o FIELD_EXPR give)

unfoldable pub field : Tokens → Marker → Turned
field ts o =
    look λ at.
    bound (kind_at ts at) λ kind.
    whether (is_field_name kind) (λ _. onward (named_field o)) λ _.
    whether (eqb kind FLOAT_NUMBER) (λ _. float_field ts o) (λ _. onward (no_field o))

unfoldable pub field_expr : Tokens → Bool → CompletedMarker → Turned
field_expr ts recovery m = then (dotted recovery m) λ o. field ts o

-- "Atoms (cut): kinds 2..6 give LITERAL"; refusal 7 at "`| < : [` in atom place"
unfoldable pub plain_atom : Tokens → Rule
plain_atom ts =
    look λ at.
    bound (kind_at ts at) λ kind.
    whether (outside_atom kind) (λ _. refuse OUTSIDE_CUT at) λ _.
    whether (eqb kind DOT) (λ _. lone_dot ts) (λ _. yields (leaf LITERAL))

unfoldable pub begin_ref : Prog Marker
begin_ref = then (begin AMP) λ o. eat MUT_KW (give o) (give o)

-- refusal 7 at "`,` after its expression"
unfoldable pub paren_tail : Tokens → Marker → Node
paren_tail ts o =
    look λ at.
    bound (kind_at ts at) λ kind.
    whether (eqb kind COMMA) (λ _. refuse OUTSIDE_CUT at) (λ _. closing R_PAREN EXPECTED_R_PAREN o PAREN_EXPR)

-- a method call: a name with `(` or `::` behind it, or `(` itself
unfoldable pub is_method : Tokens → ℕ → Bool
is_method ts at =
    bound (kind_at ts at) λ kind.
    whether (eqb kind L_PAREN) (λ _. true) λ _.
    whether (eqb kind IDENT)
    (λ _. bound (kind_at ts (at + 1)) λ next. whether (eqb next L_PAREN) (λ _. true) (λ _. present ts (at + 1) COLON2))
    (λ _. false)

unfoldable pub is_dots : Tokens → ℕ → Bool
is_dots ts at = whether (present ts at DOT2EQ) (λ _. true) (λ _. present ts at DOT2)

-- where the name after a dot stands; past the end there is none
unfoldable pub name_at : Tokens → Bool → ℕ → ℕ
name_at ts recovery at = whether recovery (λ _. at) λ _. whether (ltb at (length ts.kinds)) (λ _. at + 1) (λ _. at)

module _ (ts : Tokens) (read : ℕ → Rule) where
  unfoldable pub method_call_expr : Bool → CompletedMarker → Node
  method_call_expr recovery m = then (method_head ts recovery m) λ o. then (arg_list ts read) λ _. complete o METHOD_CALL_EXPR give

  -- "before `..` or `..=` the postfix forms end instead, without error"
  unfoldable pub postfix_dot_expr : Bool → CompletedMarker → Turned
  postfix_dot_expr recovery m =
      look λ at.
      bound (name_at ts recovery at) λ name.
      whether (is_method ts name) (λ _. onward (method_call_expr recovery m)) λ _.
      bound (kind_at ts name) λ kind.
      whether (eqb kind AWAIT_KW) (λ _. onward (await_expr recovery m)) λ _.
      whether (is_dots ts at) (λ _. give (done m)) (λ _. field_expr ts recovery m)

  unfoldable pub postfix_turn : CompletedMarker × Bool → Turned
  postfix_turn z =
      whether z.1 (λ _. postfix_dot_expr true z.0) λ _.
      look λ at.
      bound (kind_at ts at) λ kind.
      whether (eqb kind L_PAREN) (λ _. onward (call_expr ts read z.0)) λ _.
      whether (eqb kind L_BRACK) (λ _. onward (index_expr ts read z.0)) λ _.
      whether (eqb kind DOT) (λ _. postfix_dot_expr false z.0) λ _.
      whether (eqb kind QUESTION) (λ _. onward (try_expr z.0)) (λ _. give (done z.0))

  unfoldable pub postfix_expr : CompletedMarker → Node
  postfix_expr m = turns (suc (suc (2 * length ts.kinds))) postfix_turn (m, false)

  -- "`(` expression `)` gives PAREN_EXPR"; refusal 7 at "`)` right after a parenthesis in atom place (no reading is opened, so never 6)"
  unfoldable pub paren_body : Marker → Node
  paren_body o =
      look λ at.
      bound (kind_at ts at) λ kind.
      whether (eqb kind R_PAREN) (λ _. refuse OUTSIDE_CUT at) λ _.
      then (read 1) (elim [ some m ↦ paren_tail ts o | none ↦ closing R_PAREN EXPECTED_R_PAREN o PAREN_EXPR ])

  unfoldable pub paren_expr : Node
  paren_expr = then (begin L_PAREN) λ o. paren_body o

  -- "`(` expression `)` gives PAREN_EXPR; IDENT (`::` IDENT)* gives PATH_EXPR"
  unfoldable pub atom_expr : Rule
  atom_expr =
      look λ at.
      bound (kind_at ts at) λ kind.
      whether (eqb kind IDENT) (λ _. yields (path_node ts PATH_EXPR)) λ _.
      whether (eqb kind L_PAREN) (λ _. yields paren_expr) (λ _. plain_atom ts)

  unfoldable pub atom_postfix : Rule
  atom_postfix = given atom_expr λ m. yields (postfix_expr m)

  -- "`&` with optional `mut`, `*`, `!`, `-` take one raw token, then an operand at 255"
  unfoldable pub ref_expr : Node
  ref_expr = then begin_ref λ o. anyway (read 255) (complete o REF_EXPR give)

  unfoldable pub prefix_expr : ℕ → Node
  prefix_expr kind = then (begin kind) λ o. anyway (read 255) (complete o PREFIX_EXPR give)

  -- "A leading range takes its operand, if one may follow, at 2, and may stand bare."
  unfoldable pub leading_range : ℕ → Node
  leading_range kind =
      then (begin kind) λ o.
      look λ at.
      whether (operand_follows ts at) (λ _. anyway (read 2) (complete o RANGE_EXPR give)) (λ _. complete o RANGE_EXPR give)

  -- "Left part"
  unfoldable pub range_or_atom : Rule
  range_or_atom =
      look λ at.
      whether (present ts at DOT2EQ) (λ _. yields (leading_range DOT2EQ)) λ _.
      whether (present ts at DOT2) (λ _. yields (leading_range DOT2)) (λ _. atom_postfix)

  unfoldable pub lhs : Rule
  lhs =
      look λ at.
      bound (kind_at ts at) λ kind.
      whether (eqb kind AMP) (λ _. yields ref_expr) λ _.
      whether (is_prefix kind) (λ _. yields (prefix_expr kind)) (λ _. range_or_atom)

  -- "else precede, take the operator, read the right operand at strength + 1 (right side: same strength), complete BIN_EXPR or RANGE_EXPR."
  unfoldable pub bin_expr : Op → CompletedMarker → Node
  bin_expr op m = then (lead m op.kind) λ o. bound (right_of op) λ right. anyway (read right) (complete o BIN_EXPR give)

  -- "A range followed by no first token, or by `.` and IDENT, has no right operand and ends this loop."
  unfoldable pub range_expr : Op → CompletedMarker → Turning
  range_expr op m =
      then (lead m op.kind) λ o.
      look λ at.
      whether (operand_follows ts at)
      (λ _. bound (right_of op) λ right. anyway (read right) (complete o RANGE_EXPR λ m'. give (again m')))
      (λ _. complete o RANGE_EXPR λ m'. give (done m'))

  -- "While the operator's strength is at least b: `as` makes CAST_EXPR"
  unfoldable pub operator_turn : ℕ → CompletedMarker → Turning
  operator_turn b m =
      look λ at.
      bound (current_op ts at) λ op.
      whether (ltb op.strength b) (λ _. give (done m)) λ _.
      whether (eqb op.kind AS_KW) (λ _. turning (cast_expr ts m)) λ _.
      whether (is_range op) (λ _. range_expr op m) (λ _. turning (bin_expr op m))

  unfoldable pub operators : ℕ → CompletedMarker → Node
  operators b m = turns (suc (length ts.kinds)) (operator_turn b) m

  -- "Read the left part and extend it to the marker." "A reading that yields no expression ends the surrounding rule at once"
  unfoldable pub extended : Marker → Rule
  extended o = extend_to lhs o

  unfoldable pub expression : ℕ → Marker → Rule
  expression b o = given (extended o) λ m. yields (operators b m)

-- "If the token is not a first token, give error 1 as below, abandon, no expression."
unfoldable pub no_expression : Tokens → Marker → Rule
no_expression ts o = then (err_recover ts) λ _. given_up o

-- "Reading at strength b (the top at 1): start a marker." 6: "a 129th expression reading would be open", "raw position"
unfoldable pub expr_bp : ℕ → Tokens → ℕ → Rule
expr_bp zero ts b = look λ at. refuse TOO_DEEP at
expr_bp (suc depth) ts b =
    start λ o.
    look λ at.
    bound (kind_at ts at) λ kind.
    whether (is_first kind) (λ _. expression ts (expr_bp depth ts) b o) (λ _. no_expression ts o)
