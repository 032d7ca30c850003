-- The reading theorem: whatever a reading at strength b leaves without an error is the shape of a tree over the tokens that it took, and in a list without ranges the tree groups as the table says, holds at least as tightly as b, and the operator behind it is weaker. The loop's invariant: the next operator may take what was read so far as its left operand. Assumes nothing.
use mathlib.Core.Path.{◌≡◌, refl, sym, subst, ap, ◌∙◌}
use mathlib.Core.List.{List, [], ◌∷◌, ◌++◌, append_assoc}
use mathlib.Core.Bool.{true, false, false≢true}
use mathlib.Core.Logic.{◌⊎◌, inl, inr}
use Prim.Native.Nat.{ℕ, zero, suc, ◌+◌, ◌≤◌, ◌<◌}
use native.Mathlib.Omega.{arith}
use lib.ListN.{length, length-append}
use lib.Dec.{eqb}
use borrow.Author.Tests.{ltb-true, ltb-false, eqb-true, eq-eqb}
use Rattle.base.specs.Base.{Next, again, done}
use Rattle.base.proofs.Cases.{whether_by, bound_by}
use Rattle.input.specs.SyntaxKind.{AS_KW, BIN_EXPR, RANGE_EXPR, CAST_EXPR, PATH_TYPE}
use Rattle.input.specs.Input.{Tokens, kind_at}
use Rattle.event.specs.Event as event
use Rattle.event.specs.Event.{Event, live}
use Rattle.parser.specs.Prog.{Prog, give, complete}
use Rattle.parser.specs.declared.Marker.{Marker}
use Rattle.parser.specs.declared.CompletedMarker.{CompletedMarker}
use Rattle.operators.specs.declared.Op.{Op}
use Rattle.operators.specs.declared.Side.{Side}
use Rattle.operators.specs.declared.Side.TheVariants as side
use Rattle.operators.specs.TokenSet.{is_first}
use Rattle.operators.specs.Strength.{current_op, on_side, right_of, is_range}
use Rattle.atoms.specs.Atom.{lead, err_recover, Turning, turning, cast_type, cast_expr}
use Rattle.grammar.specs.Expressions.{Rule, extend_to, lhs, bin_expr, range_expr, operator_turn, operators, extended, expression, no_expression, expr_bp}
use Rattle.tree.specs.Tree as tree
use Rattle.tree.specs.Tree.{Tree, binary, cast, from, between, tok, leaves, Covers}
use Rattle.tree.specs.Table.{Associativity, place}
use Rattle.tree.specs.Grouped.{rank, LeftFits, FitsLeft, Grouped, NoRanges, NoOperator}
use Rattle.tree.proofs.Shape as shape
use Rattle.tree.proofs.Shape.{Shape, both, node, code, root, reach, Rooted, tk, path_shape, whole, rooted, outer_rooted}
use Rattle.tree.proofs.Wp.{Post, Wp, after, round}
use Rattle.tree.proofs.Nodes.{Opens, Never, in_more, covers_append, lead_wp, led_then}
use Rattle.tree.proofs.Paths.{recover_wp, cast_type_wp}
use Rattle.tree.proofs.Operators.{floor_at, floor_low, place_as, side_as, Binary, Known, known_op}
use Rattle.tree.proofs.Reading.{Ends, Takes, Ready, Expr, Left, Tight, Some, Reads, yields_wp, then_some, given_wp, operand}
use Rattle.tree.proofs.Atoms.{lhs_wp}

-- Operators alone.
known_high : (op : Op) → Known op → op.strength ≤ 12
known_high op (inl z) = omega arith
known_high op (inr (inl z)) = omega arith
known_high op (inr (inr z)) = omega (arith, z.1.high)

right_low : (op : Op) → 1 ≤ op.strength → 1 ≤ right_of op
unfolding right_of on_side
right_low op l = go op.side
  where
    go : (s : Side) → 1 ≤ on_side s (op.strength + 1) op.strength
    go side.Left = omega arith
    go side.Right = l

-- the operator at hand, once it is no weaker than b and b is at least 1
some_op : (op : Op) → 1 ≤ op.strength → Known op → ((op.kind ≡ AS_KW) × (op.strength ≡ 12)) ⊎ ((eqb op.kind AS_KW ≡ false) × Binary op)
some_op op l (inl z) = absurd (omega arith)
some_op op l (inr z) = z

as_op : (op : Op) → 1 ≤ op.strength → Known op → op.kind ≡ AS_KW → op.strength ≡ 12
as_op op l k e = elim (some_op op l k) [ inl z ↦ z.1 | inr z ↦ absurd (false≢true (sym z.0 ∙ eq-eqb op.kind AS_KW e)) ]

binary_op : (op : Op) → 1 ≤ op.strength → Known op → eqb op.kind AS_KW ≡ false → Binary op
binary_op op l k e = elim (some_op op l k) [ inl z ↦ absurd (false≢true (sym e ∙ eq-eqb op.kind AS_KW z.0)) | inr z ↦ z.1 ]

-- Trees alone: what the next operator may take.
module _ (ts : Tokens) (n : NoRanges ts) (b q : ℕ) where
  tight_ready : (t : Tree) → NoOperator t → Ready ts b q t
  tight_ready t h = (omega (arith, floor_low b), (omega (arith, known_high (current_op ts q) (known_op ts q (n q))), λ _. omega arith))

  cast_ready : (l : Tree) (k : ℕ) → b ≤ 12 → Ready ts b q (cast l k)
  unfolding rank
  cast_ready l k h = (omega (arith, floor_at b h, place_as), (omega (arith, place_as, known_high (current_op ts q) (known_op ts q (n q))), λ _. omega (arith, place_as)))

  binary_ready : (op : Op) (l r : Tree) → Binary op → b ≤ op.strength → (current_op ts q).strength < right_of op → Ready ts b q (binary op.kind l r)
  unfolding rank
  binary_ready op l r o h e = elim o.right [
    | inl z ↦ (omega (arith, floor_at b (omega (arith, o.high)), o.in_row, o.high), (omega (arith, o.in_row, z.0, z.1), λ y. absurd (omega (arith, z.0, z.1))))
    | inr z ↦ (omega (arith, floor_at b (omega (arith, o.high)), o.in_row, o.high), (omega (arith, o.in_row, z.0, z.1), λ y. omega (arith, o.in_row, z.0)))
  ]

cast_left : (t : Tree) → rank t + 12 ≤ 18 → FitsLeft AS_KW t
cast_left t h = subst (λ (a : Associativity). LeftFits a (place AS_KW) (rank t)) (sym side_as) (omega (arith, place_as))

whole_rooted : (t : Tree) → Rooted (whole t)
whole_rooted t = outer_rooted t (shape.shape t) (rooted t)

module _ (ts : Tokens) (read : ℕ → Rule) (reads : Reads ts read) (b : ℕ) (lo : 1 ≤ b) (D : List Event) (p : ℕ) where
  abbrev before : Shape → List Event
  before c = D ++ code c (reach c)

  abbrev Going : Post CompletedMarker
  Going = Expr ts (Ready ts b) D p

  abbrev Ended : Post CompletedMarker
  Ended = Expr ts (Ends ts b) D p

  Turn : Post (Next CompletedMarker CompletedMarker)
  Turn n E q = elim n [ again m ↦ Going m E q | done m ↦ Ended m E q ]

  module _ (m : CompletedMarker) (E : List Event) (q : ℕ) (h : Going m E q) (op : Op) (at_hand : current_op ts q ≡ op) (l : b ≤ op.strength) where
    abbrev t : Tree
    t = h.0

    known : NoRanges ts → Known op
    known n = subst Known at_hand (known_op ts q (n q))

    taken : NoRanges ts → Takes op t
    taken n = subst (λ (o : Op). Takes o t) at_hand (h.2 n).1.1

    cast_wp : op.kind ≡ AS_KW → Wp ts (cast_expr ts m) Going E q
    unfolding cast_expr shape.shape leaves Grouped
    cast_wp e =
        after ts (lead m AS_KW) _ (Opens ts true (tk AS_KW) (tok AS_KW ∷ []) (before (whole t)) q) Going E q (lead_wp ts m AS_KW (whole t) D E q (whole_rooted t) h.1.0 h.1.1)
        (λ o E' q' i. after ts (cast_type ts) _ (λ _ E q. (n : ℕ) × (E ≡ E' ++ code (node PATH_TYPE (path_shape n)) 0) × Covers ts q' (tree.path n) q) Going E' q' (cast_type_wp ts E' q')
        (λ _ E'' q'' j. led_then ts o CAST_EXPR (whole t) (both (tk AS_KW) (node PATH_TYPE (path_shape j.0))) (leaves t ++ (tok AS_KW ∷ tree.path j.0)) give Going D E'' p q'' i.0
        (in_more true (tk AS_KW) (node PATH_TYPE (path_shape j.0)) (before (whole t)) E' E'' i.1 j.1)
        (covers_append ts p q q'' (leaves t) (tok AS_KW ∷ tree.path j.0) h.1.2 (covers_append ts q q' q'' (tok AS_KW ∷ []) (tree.path j.0) i.2 j.2))
        (λ m E k. (
          cast t j.0,
          k,
          λ n. let st : op.strength ≡ 12 = as_op op (omega arith) (known n) e in
              ((cast_left t (omega (arith, (taken n).0)), (h.2 n).0), cast_ready ts n b q'' t j.0 (omega arith)),
        ))))

    bin_wp : eqb op.kind AS_KW ≡ false → Wp ts (bin_expr ts read op m) Going E q
    unfolding bin_expr shape.shape leaves Grouped
    bin_wp e =
        after ts (lead m op.kind) _ (Opens ts true (tk op.kind) (tok op.kind ∷ []) (before (whole t)) q) Going E q (lead_wp ts m op.kind (whole t) D E q (whole_rooted t) h.1.0 h.1.1)
        (λ o E' q' i. bound_by (λ (x : Prog CompletedMarker). Wp ts x Going E' q') _ _
        (operand ts read reads (right_of op) (right_low op (omega arith)) (complete o BIN_EXPR give) Going E' q'
        (λ r E'' q'' j c g. led_then ts o BIN_EXPR (whole t) (both (tk op.kind) (whole r)) (leaves t ++ (tok op.kind ∷ leaves r)) give Going D E'' p q'' i.0
        (in_more true (tk op.kind) (whole r) (before (whole t)) E' E'' i.1 j)
        (covers_append ts p q q'' (leaves t) (tok op.kind ∷ leaves r) h.1.2 (covers_append ts q q' q'' (tok op.kind ∷ []) (leaves r) i.2 c))
        (λ m E k. (
          binary op.kind t r,
          k,
          λ n. let o = binary_op op (omega arith) (known n) e in
              ((o.between, o.takes_left t (taken n).0 (taken n).1, o.takes_right r (g n).1.0, (h.2 n).0, (g n).0), binary_ready ts n b q'' op t r o l (g n).1.1),
        )))))

    -- a range, which a list without ranges does not have
    ranged : eqb op.kind AS_KW ≡ false → is_range op ≡ true → NoRanges ts → ⊥
    ranged e r n = false≢true (sym (binary_op op (omega arith) (known n) e).no_range ∙ r)

    range_wp : (NoRanges ts → ⊥) → Wp ts (range_expr ts read op m) Turn E q
    unfolding range_expr shape.shape leaves Turn
    range_wp out =
        after ts (lead m op.kind) _ (Opens ts true (tk op.kind) (tok op.kind ∷ []) (before (whole t)) q) Turn E q (lead_wp ts m op.kind (whole t) D E q (whole_rooted t) h.1.0 h.1.1)
        (λ o E' q' i. whether_by (λ (x : Turning). Wp ts x Turn E' q') _ _ _
        (λ _. bound_by (λ (x : Turning). Wp ts x Turn E' q') _ _
        (operand ts read reads (right_of op) (right_low op (omega arith)) (complete o RANGE_EXPR (λ m'. give (again m'))) Turn E' q'
        (λ r E'' q'' j c g. led_then ts o RANGE_EXPR (whole t) (both (tk op.kind) (whole r)) (leaves t ++ (tok op.kind ∷ leaves r)) (λ m'. give (again m')) Turn D E'' p q'' i.0
        (in_more true (tk op.kind) (whole r) (before (whole t)) E' E'' i.1 j)
        (covers_append ts p q q'' (leaves t) (tok op.kind ∷ leaves r) h.1.2 (covers_append ts q q' q'' (tok op.kind ∷ []) (leaves r) i.2 c))
        (λ m E k. (between op.kind t r, k, λ n. absurd (out n))))))
        (λ _. led_then ts o RANGE_EXPR (whole t) (tk op.kind) (leaves t ++ (tok op.kind ∷ [])) (λ m'. give (done m')) Turn D E' p q' i.0 i.1
        (covers_append ts p q q' (leaves t) (tok op.kind ∷ []) h.1.2 i.2)
        (λ m E k. (from op.kind t, k, λ n. absurd (out n)))))

  turning_wp : (x : Prog CompletedMarker) (E : List Event) (q : ℕ) → Wp ts x Going E q → Wp ts (turning x) Turn E q
  unfolding turning Turn
  turning_wp x E q w = after ts x _ Going Turn E q w (λ m E q h. h)

  turn_wp : (m : CompletedMarker) (E : List Event) (q : ℕ) → Going m E q → Wp ts (operator_turn ts read b m) Turn E q
  unfolding operator_turn Turn
  turn_wp m E q h =
      bound_by W _ _
      (whether_by W _ _ _ (λ e. (h.0, h.1, λ n. ((h.2 n).0, ((h.2 n).1.0, ltb-true _ _ e))))
      (λ w. whether_by W _ _ _ (λ e. turning_wp (cast_expr ts m) E q (cast_wp m E q h (current_op ts q) refl (ltb-false _ _ w) (eqb-true _ AS_KW e)))
      (λ e. whether_by W _ _ _ (λ r. range_wp m E q h (current_op ts q) refl (ltb-false _ _ w) (ranged m E q h (current_op ts q) refl (ltb-false _ _ w) e r))
      (λ _. turning_wp (bin_expr ts read (current_op ts q) m) E q (bin_wp m E q h (current_op ts q) refl (ltb-false _ _ w) e)))))
    where
      W : Turning → Type 0
      W x = Wp ts x Turn E q

  operators_wp : (m : CompletedMarker) (E : List Event) (q : ℕ) → Going m E q → Wp ts (operators ts read b m) Ended E q
  unfolding operators Turn
  operators_wp m E q h = round ts (operator_turn ts read b) Going Ended turn_wp (suc (length ts.kinds)) m E q h

  -- the reading's own start is extended to the left part
  abbrev begun : List Event
  begun = D ++ (event.start live 0 false ∷ [])

  place_of : (n : ℕ) → length begun + n ≡ length D + suc n
  place_of n = simp length-append (omega arith)

  extended_wp : (o : Marker) → o.0 ≡ length D → is_first (kind_at ts p) ≡ true → Wp ts (extended ts read o) (Some Going) begun p
  unfolding extended extend_to code root
  extended_wp o w first =
      then_some ts (lhs ts read) _ _ (Left ts Tight begun p) (Some Going) begun p (lhs_wp ts read reads begun p first)
      (λ m E q h. let sh : Shape = shape.shape h.0 in (
        D,
        code sh 0,
        suc (root sh),
        h.1.0 ∙ append_assoc D (event.start live 0 false ∷ []) _,
        w,
        h.1.1 ∙ place_of (root sh),
        λ m' v. (h.0, (ap (λ (x : Shape). D ++ code x 0) (sym (h.2 sh)), v ∙ h.1.1 ∙ place_of (root sh) ∙ ap (λ (x : Shape). length D + root x) (sym (h.2 sh)), h.1.2), λ n. ((h.3 n).0, tight_ready ts n b q h.0 (h.3 n).1)),
      ))

  expression_wp : (o : Marker) → o.0 ≡ length D → is_first (kind_at ts p) ≡ true → Wp ts (expression ts read b o) (Some Ended) begun p
  unfolding expression
  expression_wp o w first = given_wp ts (extended ts read o) _ Going (Some Ended) begun p (extended_wp o w first) (λ m E q h. yields_wp ts (operators ts read b m) Ended E q (operators_wp m E q h))

pub reading : (d : ℕ) (ts : Tokens) → Reads ts (expr_bp d ts)
unfolding expr_bp no_expression
reading zero ts b lo D p = tt
reading (suc d) ts b lo D p = λ o w.
    bound_by (λ (x : Rule). Wp ts x (Some (Expr ts (Ends ts b) D p)) (D ++ (event.start live 0 false ∷ [])) p) _ _
    (whether_by (λ (x : Rule). Wp ts x (Some (Expr ts (Ends ts b) D p)) (D ++ (event.start live 0 false ∷ [])) p) _ _ _
    (λ first. expression_wp ts (expr_bp d ts) (reading d ts) b lo D p o w first)
    (λ _. after ts (err_recover ts) _ Never (Some (Expr ts (Ends ts b) D p)) (D ++ (event.start live 0 false ∷ [])) p (recover_wp ts _ p) (λ _ E q h. absurd h)))
