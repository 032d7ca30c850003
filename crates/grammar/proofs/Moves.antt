-- What the rules take: each rule that makes a node takes a token before it ends, so a reading that yields an expression takes at least one, and the turns of each loop leave fewer tokens (or, after a float that ends in a dot, the same with the dot read).
-- By the machine's own moves (a taking call goes on within the list, any other stays) and one step a rule. Assumes nothing.
use Rattle.std.proofs.Common.{Result, Ok}
use mathlib.Core.Path.{◌≡◌, refl, sym, ap, subst, ◌∙◌}
use mathlib.Core.Bool.{Bool, true, false, false≢true}
use mathlib.Core.List.{List}
use Prim.Native.Nat.{ℕ, zero, suc, ◌+◌, ◌-◌, ◌*◌, ◌≤◌, ◌<◌}
use native.Mathlib.Omega.{arith}
use native.Mathlib.Nat.{le_refl}
use lib.ListN.{length}
use borrow.Author.Tests.{eqb-true}
use Rattle.base.specs.Base.{whether, bound, Next, again, done}
use Rattle.base.proofs.Cases.{whether_by, bound_by}
use Rattle.input.specs.SyntaxKind.{COMMA, DOT, AMP, L_PAREN, L_BRACK, QUESTION, AWAIT_KW, DOT2, DOT2EQ, LITERAL, PATH_EXPR}
use Rattle.input.specs.Input.{Tokens, kind_at}
use Rattle.input.proofs.Laws.{kind_inside}
use Rattle.input.specs.declared.Refusal.{Refusal}
use Rattle.event.specs.declared.State.{State}
use Rattle.parser.specs.declared.Marker.{Marker}
use Rattle.parser.specs.declared.CompletedMarker.{CompletedMarker}
use Rattle.parser.specs.Calls.{start_of, split_of, abandon_of}
use Rattle.parser.specs.Prog.{Prog, give, then, Reply, fine, bad, Ran, run, Perhaps, some, none}
use Rattle.parser.proofs.Moves.{ReplyBy, Stays, Goes, opened_by, moved_by, parted_by, then_by, start_moves, abandon_moves, split_moves, onward as never_falls}
use Rattle.operators.specs.declared.Op.{Op}
use Rattle.atoms.specs.declared.Turn.{Turn}
use Rattle.atoms.specs.declared.Turn.TheVariants as turn
use Rattle.grammar.specs.declared.Postfix.{Postfix}
use Rattle.grammar.specs.declared.Postfix.TheVariants as postfix
use Rattle.grammar.specs.declared.Args.{Args}
use Rattle.grammar.specs.declared.Args.TheVariants as args
use Rattle.atoms.specs.Views.{turn_reply}
use Rattle.grammar.specs.Views.{postfix_reply, args_reply}
use Rattle.operators.specs.Strength.{current_op}
use Rattle.atoms.specs.Atom.{Node, bump, begin, lead, err_and_bump, err_recover, Turning, cast_expr}
use Rattle.atoms.proofs.Moves.{Past, Beyond, beyond_on, from_go, then_beyond, then_later, precede_beyond, bump_beyond, begin_beyond, lead_beyond, leaf_beyond, path_node_beyond, Turns, going, turning_goes, cast_beyond, err_and_bump_beyond}
use Rattle.grammar.specs.Expressions.{Rule, Turned, yields, given, given_up, extend_to, lone_dot, lone_comma, after_argument, argument, arg_list, call_expr, index_expr, try_expr, dotted, await_expr, method_head, onward, float_field, named_field, no_field, field, field_expr, begin_ref, method_call_expr, postfix_dot_expr, postfix_turn, paren_expr, plain_atom, atom_expr, atom_postfix, ref_expr, prefix_expr, leading_range, range_or_atom, lhs, bin_expr, range_expr, operator_turn, extended, expression, no_expression, expr_bp}

-- an expression stands beyond q
abbrev pub Found : Tokens → ℕ → State → Perhaps CompletedMarker → Type 0
Found ts q s (some m) = Past ts q s
Found ts q s none = Unit {0}

abbrev pub Takes : Tokens → ℕ → Ran (Perhaps CompletedMarker) → Type 0
Takes ts q r = ReplyBy (λ s1 a _. Found ts q s1 a) (λ _ _. Unit {0}) r

module _ (ts : Tokens) (q : ℕ) where
  arg_list_beyond : (read : ℕ → Rule) (s : State) (ev : List ℕ) → q ≤ s.pos.0 → Beyond ts q (run ts (arg_list ts read) s ev)
  unfolding arg_list
  arg_list_beyond read s ev l = then_beyond ts q (begin L_PAREN) _ s ev (begin_beyond ts q L_PAREN s ev l)

  call_beyond : (read : ℕ → Rule) (m : CompletedMarker) (s : State) (ev : List ℕ) → q ≤ s.pos.0 → Beyond ts q (run ts (call_expr ts read m) s ev)
  unfolding call_expr
  call_beyond read m s ev l = precede_beyond ts q s ev l m _ (λ o s1 e h. then_beyond ts q (arg_list ts read) _ s1 e (arg_list_beyond read s1 e h))

  method_beyond : (read : ℕ → Rule) (recovery : Bool) (m : CompletedMarker) (s : State) (ev : List ℕ) → q ≤ s.pos.0 → Beyond ts q (run ts (method_call_expr ts read recovery m) s ev)
  unfolding method_call_expr
  method_beyond read recovery m s ev l = then_later ts q (method_head ts recovery m) _ s ev l (λ o s1 e h. then_beyond ts q (arg_list ts read) _ s1 e (arg_list_beyond read s1 e h))

  await_beyond : (recovery : Bool) (m : CompletedMarker) (s : State) (ev : List ℕ) → q ≤ s.pos.0 → Beyond ts q (run ts (await_expr recovery m) s ev)
  unfolding await_expr
  await_beyond recovery m s ev l = then_later ts q (dotted recovery m) _ s ev l (λ o s1 e h. then_beyond ts q (bump AWAIT_KW) _ s1 e (bump_beyond ts q s1 e h AWAIT_KW))

  -- a turn that goes on, from a rule that takes
  onward_beyond : (p : Node) (s : State) (ev : List ℕ) → Beyond ts q (run ts p s ev) → Beyond ts q (run ts (onward p) s ev)
  unfolding onward
  onward_beyond p s ev h = then_beyond ts q p _ s ev h

  -- a node that takes, as a reading; a reading that goes on from beyond q
  yields_takes : (p : Node) (s : State) (ev : List ℕ) → Beyond ts q (run ts p s ev) → Takes ts q (run ts (yields p) s ev)
  unfolding yields run
  yields_takes p s ev h = then_by (Takes ts q) (λ s1 _ _. Past ts q s1) (λ _ _. Unit {0}) ts p _ s ev h (λ s1 a e g. g) (λ _ _ _. tt)

  takes_go : (x : Reply (Perhaps CompletedMarker)) (e : List ℕ) → Beyond ts q (x, e) → Takes ts q (x, e)
  takes_go (fine s (some m)) e h = h
  takes_go (fine s none) e h = tt
  takes_go (bad r) e h = tt

  takes_on : (p : Rule) (s : State) (ev : List ℕ) → Past ts q s → Takes ts q (run ts p s ev)
  takes_on p s ev h = takes_go (run ts p s ev).0 (run ts p s ev).1 (beyond_on ts q p s ev h)

  given_up_takes : (o : Marker) (s : State) (ev : List ℕ) → Takes ts q (run ts (given_up o) s ev)
  unfolding given_up run
  given_up_takes o s ev = moved_by (Takes ts q) (Stays s ev) (λ e. e ≡ ev) (abandon_of s o ev) _ _ (abandon_moves ts s o ev) (λ _ _ _. tt) (λ _ _ _. tt)

  -- a rule that gives none
  then_none : {A : Type 0} (p : Prog A) (k : A → Rule) (s : State) (ev : List ℕ) → ((a : A) (s1 : State) (e : List ℕ) → Takes ts q (run ts (k a) s1 e)) → Takes ts q (run ts (then p k) s ev)
  then_none {A = A} p k s ev h = then_by (Takes ts q) (λ _ _ _. Unit {0}) (λ _ _. Unit {0}) ts p k s ev (go (run ts p s ev).0 (run ts p s ev).1) (λ s1 a e _. h a s1 e) (λ _ _ _. tt)
    where
      go : (x : Reply A) (e : List ℕ) → ReplyBy (λ _ _ _. Unit {0}) (λ _ _. Unit {0}) (x, e)
      go (fine s a) e = tt
      go (bad r) e = tt

  some_go : (k : CompletedMarker → Rule) (n : Rule) (a : Perhaps CompletedMarker) (s1 : State) (e : List ℕ) → Found ts q s1 a → Takes ts q (run ts n s1 e) → Takes ts q (run ts (elim a as (λ _. Rule) [ some m ↦ k m | none ↦ n ]) s1 e)
  some_go k n (some m) s1 e h z = takes_on (k m) s1 e h
  some_go k n none s1 e h z = z

  given_takes : (p : Rule) (k : CompletedMarker → Rule) (s : State) (ev : List ℕ) → Takes ts q (run ts p s ev) → Takes ts q (run ts (given p k) s ev)
  unfolding given run
  given_takes p k s ev h = then_by (Takes ts q) (λ s1 a _. Found ts q s1 a) (λ _ _. Unit {0}) ts p _ s ev h (λ s1 a e g. some_go k (give none) a s1 e g tt) (λ _ _ _. tt)

  -- "Left part"
  lone_dot_takes : (s : State) (ev : List ℕ) → Takes ts q (run ts (lone_dot ts) s ev)
  unfolding lone_dot run
  lone_dot_takes s ev = then_none (err_recover ts) _ s ev (λ _ _ _. tt)

  module _ (read : ℕ → Rule) (s : State) (ev : List ℕ) (l : q ≤ s.pos.0) where
    abbrev Here : Rule → Type 0
    Here p = Takes ts q (run ts p s ev)

    plain_takes : Takes ts q (run ts (plain_atom ts) s ev)
    unfolding plain_atom run
    plain_takes =
        bound_by Here _ _
        (whether_by Here _ _ _ (λ _. tt) (λ _. whether_by Here _ _ _ (λ _. lone_dot_takes s ev) (λ _. yields_takes _ s ev (leaf_beyond ts q LITERAL s ev l))))

    atom_takes : Takes ts q (run ts (atom_expr ts read) s ev)
    unfolding atom_expr run paren_expr
    atom_takes =
        bound_by Here _ _
        (whether_by Here _ _ _ (λ _. yields_takes _ s ev (path_node_beyond ts q PATH_EXPR s ev l))
        (λ _. whether_by Here _ _ _ (λ _. yields_takes _ s ev (then_beyond ts q (begin L_PAREN) _ s ev (begin_beyond ts q L_PAREN s ev l))) (λ _. plain_takes)))

    lhs_takes : Takes ts q (run ts (lhs ts read) s ev)
    unfolding lhs range_or_atom atom_postfix run ref_expr begin_ref prefix_expr leading_range
    lhs_takes =
        bound_by Here _ _
        (whether_by Here _ _ _ (λ _. yields_takes _ s ev (then_beyond ts q begin_ref _ s ev (then_beyond ts q (begin AMP) _ s ev (begin_beyond ts q AMP s ev l))))
        (λ _. whether_by Here _ _ _ (λ _. yields_takes _ s ev (then_beyond ts q (begin _) _ s ev (begin_beyond ts q _ s ev l)))
        (λ _. whether_by Here _ _ _ (λ _. yields_takes _ s ev (then_beyond ts q (begin DOT2EQ) _ s ev (begin_beyond ts q DOT2EQ s ev l)))
        (λ _. whether_by Here _ _ _ (λ _. yields_takes _ s ev (then_beyond ts q (begin DOT2) _ s ev (begin_beyond ts q DOT2 s ev l))) (λ _. given_takes (atom_expr ts read) _ s ev atom_takes)))))

    extended_takes : (o : Marker) → Takes ts q (run ts (extended ts read o) s ev)
    unfolding extended extend_to
    extended_takes o = then_by (Takes ts q) (λ s1 a _. Found ts q s1 a) (λ _ _. Unit {0}) ts (lhs ts read) _ s ev lhs_takes (λ s1 a e g. some_go _ (given_up o) a s1 e g (given_up_takes o s1 e)) (λ _ _ _. tt)

    expression_takes : (b : ℕ) (o : Marker) → Takes ts q (run ts (expression ts read b o) s ev)
    unfolding expression
    expression_takes b o = given_takes (extended ts read o) _ s ev (extended_takes o)

    no_expression_takes : (o : Marker) → Takes ts q (run ts (no_expression ts o) s ev)
    unfolding no_expression
    no_expression_takes o = then_none (err_recover ts) _ s ev (λ _ s1 e. given_up_takes o s1 e)

-- a reading that yields an expression takes at least one token
pub takes_a_token : (depth : ℕ) (ts : Tokens) (b : ℕ) (s : State) (ev : List ℕ) → Takes ts s.pos.0 (run ts (expr_bp depth ts b) s ev)
unfolding expr_bp run
takes_a_token zero ts b s ev = tt
takes_a_token (suc d) ts b s ev =
    opened_by (Takes ts s.pos.0) (Stays s ev) (λ e. e ≡ ev) (start_of s ev) _ _ (start_moves ts s ev)
    (λ s1 o e h. bound_by (λ (p : Rule). Takes ts s.pos.0 (run ts p s1 e)) _ _
    (whether_by (λ (p : Rule). Takes ts s.pos.0 (run ts p s1 e)) _ _ _
    (λ _. expression_takes ts s.pos.0 (expr_bp d ts) s1 e (omega arith) b o)
    (λ _. no_expression_takes ts s.pos.0 (expr_bp d ts) s1 e (omega arith) o)))
    (λ _ _ _. tt)

range_beyond : (ts : Tokens) (q : ℕ) (read : ℕ → Rule) (op : Op) (m : CompletedMarker) (s : State) (ev : List ℕ) → q ≤ s.pos.0 → Beyond ts q (run ts (range_expr ts read op m) s ev)
unfolding range_expr
range_beyond ts q read op m s ev l = then_beyond ts q (lead m op.kind) _ s ev (lead_beyond ts q m op.kind s ev l)

bin_beyond : (ts : Tokens) (q : ℕ) (read : ℕ → Rule) (op : Op) (m : CompletedMarker) (s : State) (ev : List ℕ) → q ≤ s.pos.0 → Beyond ts q (run ts (bin_expr ts read op m) s ev)
unfolding bin_expr
bin_beyond ts q read op m s ev l = then_beyond ts q (lead m op.kind) _ s ev (lead_beyond ts q m op.kind s ev l)

index_beyond : (ts : Tokens) (q : ℕ) (read : ℕ → Rule) (m : CompletedMarker) (s : State) (ev : List ℕ) → q ≤ s.pos.0 → Beyond ts q (run ts (index_expr ts read m) s ev)
unfolding index_expr
index_beyond ts q read m s ev l = then_beyond ts q (lead m L_BRACK) _ s ev (lead_beyond ts q m L_BRACK s ev l)

try_beyond : (ts : Tokens) (q : ℕ) (m : CompletedMarker) (s : State) (ev : List ℕ) → q ≤ s.pos.0 → Beyond ts q (run ts (try_expr m) s ev)
unfolding try_expr
try_beyond ts q m s ev l = then_beyond ts q (lead m QUESTION) _ s ev (lead_beyond ts q m QUESTION s ev l)

field_beyond : (ts : Tokens) (q : ℕ) (m : CompletedMarker) (s : State) (ev : List ℕ) → q ≤ s.pos.0 → Beyond ts q (run ts (field_expr ts false m) s ev)
unfolding field_expr dotted whether
field_beyond ts q m s ev l = then_beyond ts q (dotted false m) _ s ev (lead_beyond ts q m DOT s ev l)

operator_goes : (ts : Tokens) (read : ℕ → Rule) (b : ℕ) (m : CompletedMarker) (s : State) (ev : List ℕ) → Turns ts s.pos.0 (run ts (operator_turn ts read b m) s ev)
unfolding operator_turn run bound
operator_goes ts read b m s ev =
    whether_by (λ (p : Turning). Turns ts s.pos.0 (run ts p s ev)) _ _ _ (λ _. tt)
    (λ _. whether_by (λ (p : Turning). Turns ts s.pos.0 (run ts p s ev)) _ _ _ (λ _. turning_goes ts s.pos.0 (cast_expr ts m) s ev (cast_beyond ts s.pos.0 m s ev (le_refl _)))
    (λ _. whether_by (λ (p : Turning). Turns ts s.pos.0 (run ts p s ev)) _ _ _
    (λ _. going ts s.pos.0 (range_expr ts read (current_op ts s.pos.0) m) s ev (range_beyond ts s.pos.0 read (current_op ts s.pos.0) m s ev (le_refl _)))
    (λ _. turning_goes ts s.pos.0 (bin_expr ts read (current_op ts s.pos.0) m) s ev (bin_beyond ts s.pos.0 read (current_op ts s.pos.0) m s ev (le_refl _)))))

-- "Arguments"
abbrev ArgTurn : Type 0
ArgTurn = Prog (Next (Unit {0}) (Unit {0}))

lone_comma_goes : (ts : Tokens) (s : State) (ev : List ℕ) → Beyond ts s.pos.0 (run ts err_and_bump s ev) → Turns ts s.pos.0 (run ts lone_comma s ev)
unfolding lone_comma
lone_comma_goes ts s ev h = going ts s.pos.0 lone_comma s ev (then_beyond ts s.pos.0 err_and_bump _ s ev h)

argument_goes : (ts : Tokens) (depth : ℕ) (s : State) (ev : List ℕ) → Turns ts s.pos.0 (run ts (argument ts (expr_bp depth ts)) s ev)
unfolding argument run
argument_goes ts depth s ev =
    bound_by (λ (p : ArgTurn). Turns {S = Unit {0}} {A = Unit {0}} ts s.pos.0 (run ts p s ev)) _ _
    (whether_by (λ (p : ArgTurn). Turns {S = Unit {0}} {A = Unit {0}} ts s.pos.0 (run ts p s ev)) _ _ _ (λ _. tt)
    (λ _. whether_by (λ (p : ArgTurn). Turns {S = Unit {0}} {A = Unit {0}} ts s.pos.0 (run ts p s ev)) _ _ _
    (λ k. lone_comma_goes ts s ev (err_and_bump_beyond ts s ev (kind_inside ts s.pos.0 (λ z. let c : kind_at ts s.pos.0 ≡ COMMA = eqb-true _ _ k in omega arith))))
    (λ _. then_by (Turns {S = Unit {0}} {A = Unit {0}} ts s.pos.0) (λ s1 a _. Found ts s.pos.0 s1 a) (λ _ _. Unit {0}) ts (expr_bp depth ts 1) _ s ev (takes_a_token depth ts 1 s ev) (λ s1 a e g. go a s1 e g) (λ _ _ _. tt))))
  where
    go : (a : Perhaps CompletedMarker) (s1 : State) (e : List ℕ) → Found ts s.pos.0 s1 a → Turns {S = Unit {0}} {A = Unit {0}} ts s.pos.0 (run ts (elim a as (λ _. ArgTurn) [ some m ↦ after_argument ts | none ↦ give (done tt) ]) s1 e)
    go (some m) s1 e h = going ts s.pos.0 (after_argument ts) s1 e (beyond_on ts s.pos.0 (after_argument ts) s1 e h)
    go none s1 e h = tt

-- the turns that are left to the postfix forms: two for a token, one for a dot that a float had read
abbrev pub flag_of : Bool → ℕ
flag_of true = 1
flag_of false = 0

abbrev pub left : Tokens → State → Bool → ℕ
left ts s recovery = 2 * (length ts.kinds - s.pos.0) + flag_of recovery

flag_small : (b : Bool) → flag_of b ≤ 1
flag_small true = omega arith
flag_small false = omega arith

abbrev Fewer : Tokens → ℕ → State → Next (CompletedMarker × Bool) CompletedMarker → Type 0
Fewer ts n s (again z) = left ts s z.1 < n
Fewer ts n s (done a) = Unit {0}

abbrev Fewers : Tokens → ℕ → Ran (Next (CompletedMarker × Bool) CompletedMarker) → Type 0
Fewers ts n r = ReplyBy (λ s1 z _. Fewer ts n s1 z) (λ _ _. Unit {0}) r

module _ (ts : Tokens) (s : State) where
  fewer_go : (n : ℕ) → 2 * (length ts.kinds - s.pos.0) ≤ n → (x : Reply (Next (CompletedMarker × Bool) CompletedMarker)) (e : List ℕ) → Beyond ts s.pos.0 (x, e) → Fewers ts n (x, e)
  fewer_go n l (fine s1 (again z)) e h = let f : flag_of z.1 ≤ 1 = flag_small z.1 in omega arith
  fewer_go n l (fine s1 (done a)) e h = tt
  fewer_go n l (bad r) e h = tt

  fewer : (n : ℕ) → 2 * (length ts.kinds - s.pos.0) ≤ n → (p : Turned) (s1 : State) (ev : List ℕ) → Beyond ts s.pos.0 (run ts p s1 ev) → Fewers ts n (run ts p s1 ev)
  fewer n l p s1 ev h = fewer_go n l (run ts p s1 ev).0 (run ts p s1 ev).1 h

  -- after a node the dot is still to be read
  onward_fewer : (p : Node) (s1 : State) (ev : List ℕ) → s.pos.0 ≤ s1.pos.0 → Fewers ts (left ts s true) (run ts (onward p) s1 ev)
  unfolding onward run
  onward_fewer p s1 ev l = then_by (Fewers ts (left ts s true)) (λ s2 _ _. s.pos.0 ≤ s2.pos.0) (λ _ _. Unit {0}) ts p _ s1 ev (from_go ts s.pos.0 (run ts p s1 ev).0 (run ts p s1 ev).1 (never_falls ts p s.pos.0 s1 ev l)) (λ s2 a e h. omega arith) (λ _ _ _. tt)

  float_beyond : (o : Marker) (s1 : State) (ev : List ℕ) → s.pos.0 ≤ s1.pos.0 → Beyond ts s.pos.0 (run ts (float_field ts o) s1 ev)
  unfolding float_field run
  float_beyond o s1 ev l =
      bound_by (λ (p : Turned). Beyond ts s.pos.0 (run ts p s1 ev)) _ _
      (parted_by (Beyond ts s.pos.0) (Goes ts s1 ev) (λ e. e ≡ ev) (split_of ts s1 o ev) _ _ _ (split_moves ts s1 o ev) (λ s2 m e h. (omega arith, omega arith)) (λ _ _. tt) (λ _ _ _. tt))

  field_fewer : (o : Marker) (s1 : State) (ev : List ℕ) → s.pos.0 ≤ s1.pos.0 → Fewers ts (left ts s true) (run ts (field ts o) s1 ev)
  unfolding field run
  field_fewer o s1 ev l =
      bound_by (λ (p : Turned). Fewers ts (left ts s true) (run ts p s1 ev)) _ _
      (whether_by (λ (p : Turned). Fewers ts (left ts s true) (run ts p s1 ev)) _ _ _ (λ _. onward_fewer (named_field o) s1 ev l)
      (λ _. whether_by (λ (p : Turned). Fewers ts (left ts s true) (run ts p s1 ev)) _ _ _ (λ _. fewer (left ts s true) (omega arith) (float_field ts o) s1 ev (float_beyond o s1 ev l)) (λ _. onward_fewer (no_field o) s1 ev l)))

  module _ (read : ℕ → Rule) (m : CompletedMarker) (ev : List ℕ) where
    abbrev Less : Bool → Turned → Type 0
    Less recovery p = Fewers ts (left ts s recovery) (run ts p s ev)

    dot_fewer : (recovery : Bool) → Less recovery (field_expr ts recovery m) → Less recovery (postfix_dot_expr ts read recovery m)
    unfolding postfix_dot_expr run
    dot_fewer recovery h =
        bound_by (Less recovery) _ _
        (whether_by (Less recovery) _ _ _ (λ _. fewer (left ts s recovery) (omega arith) (onward (method_call_expr ts read recovery m)) s ev (onward_beyond ts s.pos.0 (method_call_expr ts read recovery m) s ev (method_beyond ts s.pos.0 read recovery m s ev (le_refl _))))
        (λ _. bound_by (Less recovery) _ _
        (whether_by (Less recovery) _ _ _ (λ _. fewer (left ts s recovery) (omega arith) (onward (await_expr recovery m)) s ev (onward_beyond ts s.pos.0 (await_expr recovery m) s ev (await_beyond ts s.pos.0 recovery m s ev (le_refl _))))
        (λ _. whether_by (Less recovery) _ _ _ (λ _. tt) (λ _. h)))))

    field_true : Less true (field_expr ts true m)
    unfolding field_expr
    field_true = then_by (Fewers ts (left ts s true)) (λ s2 _ _. s.pos.0 ≤ s2.pos.0) (λ _ _. Unit {0}) ts (dotted true m) _ s ev (from_go ts s.pos.0 (run ts (dotted true m) s ev).0 (run ts (dotted true m) s ev).1 (never_falls ts (dotted true m) s.pos.0 s ev (le_refl _))) (λ s2 o e h. field_fewer o s2 e h) (λ _ _ _. tt)

    field_false : Less false (field_expr ts false m)
    field_false = fewer (left ts s false) (omega arith) (field_expr ts false m) s ev (field_beyond ts s.pos.0 m s ev (le_refl _))

    dot_read : postfix_dot_expr ts read true m ≡ postfix_turn ts read (m, true)
    unfolding postfix_turn whether
    dot_read = refl

    form_goes : (b : Bool) → b ≡ false → Less b (postfix_turn ts read (m, b))
    unfolding postfix_turn run
    form_goes b z =
        whether_by (Less b) _ _ _
        (λ y. absurd (false≢true (sym z ∙ y)))
        (λ _. bound_by (Less b) _ _
        (whether_by (Less b) _ _ _ (λ _. fewer (left ts s b) (omega arith) (onward (call_expr ts read m)) s ev (onward_beyond ts s.pos.0 (call_expr ts read m) s ev (call_beyond ts s.pos.0 read m s ev (le_refl _))))
        (λ _. whether_by (Less b) _ _ _ (λ _. fewer (left ts s b) (omega arith) (onward (index_expr ts read m)) s ev (onward_beyond ts s.pos.0 (index_expr ts read m) s ev (index_beyond ts s.pos.0 read m s ev (le_refl _))))
        (λ _. whether_by (Less b) _ _ _ (λ _. subst (λ (c : Bool). Less c (postfix_dot_expr ts read false m)) (sym z) (dot_fewer false field_false))
        (λ _. whether_by (Less b) _ _ _ (λ _. fewer (left ts s b) (omega arith) (onward (try_expr m)) s ev (onward_beyond ts s.pos.0 (try_expr m) s ev (try_beyond ts s.pos.0 m s ev (le_refl _)))) (λ _. tt))))))

    postfix_goes : (recovery : Bool) → Less recovery (postfix_turn ts read (m, recovery))
    postfix_goes true = dot_true
      where
        dot_true : Less true (postfix_turn ts read (m, true))
        dot_true = subst (λ (p : Turned). Less true p) dot_read (dot_fewer true field_true)
    postfix_goes false = form_goes false refl

-- for the measures of the loops
module _ (ts : Tokens) (s s1 : State) (ev e : List ℕ) where
  fell : Past ts s.pos.0 s1 → length ts.kinds - s1.pos.0 < length ts.kinds - s.pos.0
  fell h = omega arith

  pub operator_less : (read : ℕ → Rule) (b : ℕ) (m : CompletedMarker) {m1 : CompletedMarker} (x : Result Turn Refusal) → (turn_reply x, e) ≡ run ts (operator_turn ts read b m) s ev → x ≡ Ok (turn.Again s1 m1) → length ts.kinds - s1.pos.0 < length ts.kinds - s.pos.0
  unfolding turn_reply
  operator_less read b m x p q = fell (subst (λ (r : Ran (Next CompletedMarker CompletedMarker)). Turns ts s.pos.0 r) (sym p ∙ ap (λ (y : Result Turn Refusal). (turn_reply y, e)) q) (operator_goes ts read b m s ev))

  pub argument_less : (depth : ℕ) (x : Result Args Refusal) → (args_reply x, e) ≡ run ts (argument ts (expr_bp depth ts)) s ev → x ≡ Ok (args.More s1) → length ts.kinds - s1.pos.0 < length ts.kinds - s.pos.0
  unfolding args_reply
  argument_less depth x p q = fell (subst (λ (r : Ran (Next (Unit {0}) (Unit {0}))). Turns ts s.pos.0 r) (sym p ∙ ap (λ (y : Result Args Refusal). (args_reply y, e)) q) (argument_goes ts depth s ev))

  pub postfix_less : (read : ℕ → Rule) (m : CompletedMarker) (recovery : Bool) {m1 : CompletedMarker} {next : Bool} (x : Result Postfix Refusal) → (postfix_reply x, e) ≡ run ts (postfix_turn ts read (m, recovery)) s ev → x ≡ Ok (postfix.Again s1 m1 next) → 2 * (length ts.kinds - s1.pos.0) + flag_of next < 2 * (length ts.kinds - s.pos.0) + flag_of recovery
  unfolding postfix_reply
  postfix_less read m recovery x p q = subst (λ (r : Ran (Next (CompletedMarker × Bool) CompletedMarker)). Fewers ts (left ts s recovery) r) (sym p ∙ ap (λ (y : Result Postfix Refusal). (postfix_reply y, e)) q) (postfix_goes ts s read m ev recovery)
