-- The rules that read no expression inside: taking, errors, names, paths, types. A rule is a program of machine calls.
use Rattle.std.specs.Prelude.{ℕ, suc, ◌+◌, length, eqb}
use Rattle.base.specs.Base.{whether, bound, Next, again, done}
use Rattle.input.specs.SyntaxKind.{IDENT, AS_KW, L_PAREN, BANG, L_ANGLE, COLON2, NEQ, LTEQ, ERROR, PATH, PATH_SEGMENT, NAME_REF, CAST_EXPR, PATH_TYPE, EXPECTED_EXPRESSION, EXPECTED_TYPE, OUTSIDE_CUT, UNFIT}
use Rattle.input.specs.Input.{Tokens, kind_at, present}
use Rattle.parser.specs.declared.Marker.{Marker}
use Rattle.parser.specs.declared.CompletedMarker.{CompletedMarker}
use Rattle.parser.specs.Prog.{Prog, give, refuse, look, start, complete, precede, eat, bump_any, error, then, turns}
use Rattle.operators.specs.TokenSet.{is_closing, outside_type}

-- a rule that goes on with nothing
abbrev pub Part : Type 0
Part = Prog (Unit {0})

-- a rule that makes a node
abbrev pub Node : Type 0
Node = Prog CompletedMarker

-- takes a kind that is at hand ("asserts to refusal 8")
unfoldable pub bump : ℕ → Part
bump kind = eat kind (give tt) (refuse UNFIT 0)

-- a start and the kind at hand; a start before a closed node and the kind at hand
unfoldable pub begin : ℕ → Prog Marker
begin kind = start λ o. then (bump kind) λ _. give o

unfoldable pub lead : CompletedMarker → ℕ → Prog Marker
lead m kind = precede m λ o. then (bump kind) λ _. give o

-- "A missing `)` or `]` gives 5 or 6, nothing taken."
unfoldable pub expect : ℕ → ℕ → Part
expect kind code = eat kind (give tt) (error code (give tt))

unfoldable pub closing : ℕ → ℕ → Marker → ℕ → Node
closing kind code o node = then (expect kind code) λ _. complete o node give

-- one token as a node
unfoldable pub leaf : ℕ → Node
leaf node = start λ o. bump_any (complete o node give) (refuse UNFIT 0)

-- "an ERROR node with the error and one token, none at EOF"
unfoldable pub begin_error : Prog Marker
begin_error = start λ o. error EXPECTED_EXPRESSION (give o)

unfoldable pub err_and_bump : Part
err_and_bump = then begin_error λ o. bump_any (complete o ERROR λ _. give tt) (complete o ERROR λ _. give tt)

-- "Error 1: at `)` or `]` (cut) the error alone; otherwise an ERROR node with the error and one token, none at EOF."
unfoldable pub err_recover : Tokens → Part
err_recover ts =
    look λ at.
    bound (kind_at ts at) λ kind.
    whether (is_closing kind) (λ _. error EXPECTED_EXPRESSION (give tt)) (λ _. err_and_bump)

-- "IDENT (`::` IDENT)* gives PATH_EXPR over PATHs nested to the left, each PATH_SEGMENT holding NAME_REF."
unfoldable pub segment : Node
segment = start λ o. then (leaf NAME_REF) λ _. complete o PATH_SEGMENT give

unfoldable pub first_path : Node
first_path = start λ o. then segment λ _. complete o PATH give

unfoldable pub qualified : CompletedMarker → Node
qualified m = then (lead m COLON2) λ o. then segment λ _. complete o PATH give

-- a turn of a loop that goes on after a node
abbrev pub Turning : Type 0
Turning = Prog (Next CompletedMarker CompletedMarker)

unfoldable pub turning : Node → Turning
turning p = then p λ m. give (again m)

-- "Refusal 7, at: .. `::` not followed by IDENT"
unfoldable pub path_turn : Tokens → CompletedMarker → Turning
path_turn ts m =
    look λ at.
    whether (present ts at COLON2)
    (λ _. bound (kind_at ts (at + 2)) λ next. whether (eqb next IDENT) (λ _. turning (qualified m)) (λ _. refuse OUTSIDE_CUT at))
    (λ _. give (done m))

unfoldable pub path_rest : Tokens → CompletedMarker → Node
path_rest ts m = turns (suc (length ts.kinds)) (path_turn ts) m

unfoldable pub path : Tokens → Node
path ts = then first_path λ m. path_rest ts m

-- "`!` after a path in expression or type, unless `!=`"
unfoldable pub no_macro : Tokens → Part
no_macro ts =
    look λ at.
    bound (kind_at ts at) λ kind.
    whether (eqb kind BANG)
    (λ _. whether (present ts at NEQ) (λ _. give tt) (λ _. refuse OUTSIDE_CUT at))
    (λ _. give tt)

unfoldable pub plain_path : Tokens → Part
plain_path ts = then (path ts) λ _. no_macro ts

-- a path under a node of its own: PATH_EXPR or PATH_TYPE
unfoldable pub path_node : Tokens → ℕ → Node
path_node ts node = start λ o. then (plain_path ts) λ _. complete o node give

-- "after a cast type, `(` or a `<` that is not `<=`"
unfoldable pub after_type : Tokens → Part
after_type ts =
    look λ at.
    bound (kind_at ts at) λ kind.
    whether (eqb kind L_PAREN) (λ _. refuse OUTSIDE_CUT at) λ _.
    whether (eqb kind L_ANGLE)
    (λ _. whether (present ts at LTEQ) (λ _. give tt) (λ _. refuse OUTSIDE_CUT at))
    (λ _. give tt)

unfoldable pub path_type : Tokens → Part
path_type ts = then (path_node ts PATH_TYPE) λ _. after_type ts

-- "Cast types: such a path under PATH_TYPE, else error 4, nothing taken." "in type place, `& ( [ * ! < :`"
unfoldable pub cast_type : Tokens → Part
cast_type ts =
    look λ at.
    bound (kind_at ts at) λ kind.
    whether (eqb kind IDENT) (λ _. path_type ts) λ _.
    whether (outside_type kind)
    (λ _. refuse OUTSIDE_CUT at)
    (λ _. error EXPECTED_TYPE (give tt))

-- "`as` makes CAST_EXPR"
unfoldable pub cast_expr : Tokens → CompletedMarker → Node
cast_expr ts m = then (lead m AS_KW) λ o. then (cast_type ts) λ _. complete o CAST_EXPR give
