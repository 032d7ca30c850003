-- The postfix forms: each is the shape of a tree over what stands before it. The loop's invariant: an expression without a prefix or operator of its own, or a field whose float ends in a dot. Assumes nothing.
use mathlib.Core.Path.{◌≡◌, refl, sym, subst, ap, ◌∙◌}
use mathlib.Core.List.{List, [], ◌∷◌, ◌++◌, append_assoc, append-nil}
use mathlib.Core.Bool.{Bool, true, false, false≢true}
use Prim.Native.Nat.{ℕ, suc, ◌+◌, ◌*◌}
use native.Mathlib.Omega.{arith}
use lib.ListN.{length, length-append}
use lib.Dec.{eqb}
use borrow.Author.Tests.{eqb-true, lt-ltb}
use Rattle.base.specs.Base.{whether, bound, Next, again, done}
use Rattle.base.proofs.Cases.{whether_by, bound_by}
use Rattle.input.specs.SyntaxKind.{IDENT, INT_NUMBER, AWAIT_KW, L_PAREN, R_PAREN, L_BRACK, R_BRACK, DOT, QUESTION, DOT2, DOT2EQ, NAME_REF, CALL_EXPR, INDEX_EXPR, METHOD_CALL_EXPR, FIELD_EXPR, AWAIT_EXPR, TRY_EXPR, EXPECTED_R_BRACK}
use Rattle.input.specs.Input.{Tokens, kind_at, present, width_of, parts_of, is_glued, is_raw}
use Rattle.event.specs.Event as event
use Rattle.event.specs.Event.{Event, live}
use Rattle.parser.specs.Prog.{Prog, give, complete, then}
use Rattle.parser.specs.declared.Marker.{Marker}
use Rattle.parser.specs.declared.CompletedMarker.{CompletedMarker}
use Rattle.parser.proofs.Moves.{present_within}
use Rattle.operators.specs.TokenSet.{is_field_name}
use Rattle.atoms.specs.Atom.{Node, bump, lead, closing, leaf}
use Rattle.grammar.specs.Expressions.{Rule, call_expr, index_expr, try_expr, dotted, await_expr, no_generics, method_name, method_head, Turned, onward, float_field, named_field, no_field, field_expr, is_method, is_dots, name_at, method_call_expr, postfix_dot_expr, postfix_turn, postfix_expr, arg_list}
use Rattle.grammar.specs.Expressions as rule
use Rattle.tree.specs.Tree as tree
use Rattle.tree.specs.Tree.{Tree, call, index, try, field, method, await, two_fields, lone, Stem, pointed, Leaf, tok, float, leaves, stem_leaves, arg_leaves, Covers}
use Rattle.tree.specs.Table.{holds}
use Rattle.tree.specs.Grouped.{rank, field_name, names, Grouped, GroupedStem, NoRanges}
use Rattle.tree.proofs.Shape as shape
use Rattle.tree.proofs.Shape.{Shape, both, led, shut, code, size, root, reach, size_is, tk, name_shape, list_shape, first_shape, link_shape, args_shape, whole, rooted}
use Rattle.tree.proofs.Wp.{Post, Wp, after, weaken, round}
use Rattle.tree.proofs.Nodes.{In, Opens, Makes, in_more, in_tok, covers_append, covers_tok, covers_end, covers_present, covers_float, precede_wp, lead_wp, led_then, leaf_wp, closing_led}
use Rattle.tree.proofs.Paths.{raw_ident}
use Rattle.tree.proofs.Operators.{no_dots}
use Rattle.tree.proofs.Reading.{Lhs, Left, Bound, Reads, operand}
use Rattle.tree.proofs.Arguments.{List_of, arg_list_wp}

-- a field's name is a raw kind, and one of the tree's names
raw_int : is_raw INT_NUMBER ≡ true
unfolding is_raw whether
raw_int = refl

raw_name : (k : ℕ) → is_field_name k ≡ true → is_raw k ≡ true
unfolding is_field_name
raw_name k = whether_by (λ z. z ≡ true → is_raw k ≡ true) _ _ _ (λ e _. ap is_raw (eqb-true k IDENT e) ∙ raw_ident) (λ _. whether_by (λ z. z ≡ true → is_raw k ≡ true) _ _ _ (λ e _. ap is_raw (eqb-true k INT_NUMBER e) ∙ raw_int) (λ _ h. absurd (false≢true h)))

is_name : (k : ℕ) → is_field_name k ≡ true → holds k names ≡ true
unfolding is_field_name holds
is_name k h = h

-- a name that is no method's has no parenthesis behind it
ident_wide : width_of IDENT ≡ 1
unfolding width_of parts_of is_glued whether
ident_wide = refl

dot_wide : width_of DOT ≡ 1
unfolding width_of parts_of is_glued whether
dot_wide = refl

-- where the name stands: here, or behind the dot
name_here : (ts : Tokens) (q : ℕ) → q ≡ name_at ts true q
unfolding name_at whether
name_here ts q = refl

name_behind : (ts : Tokens) (q : ℕ) → present ts q DOT ≡ true → name_at ts false q ≡ q + 1
unfolding name_at whether
name_behind ts q h = rw (lt-ltb q (length ts.kinds) (omega (arith, (present_within ts q DOT h).0, (present_within ts q DOT h).1)))

not_method : (ts : Tokens) (q : ℕ) → is_method ts q ≡ false → kind_at ts q ≡ IDENT → eqb (kind_at ts (q + 1)) L_PAREN ≡ true → ⊥
unfolding is_method whether bound
not_method ts q h e c = false≢true (sym h ∙ rw (e, c))

module _ (ts : Tokens) (D : List Event) (p : ℕ) where
  -- what stands before a postfix form
  abbrev pub Base : Post CompletedMarker
  Base = Left ts (Bound ts) D p

  -- a field whose float ends in a dot
  abbrev Pointed : Post CompletedMarker
  Pointed m E q = (s : Stem) × Makes ts (shape.shape (lone s)) (leaves (lone s)) D p m E q × (NoRanges ts → GroupedStem s)

  abbrev Stands : Bool → Post CompletedMarker
  Stands true = Pointed
  Stands false = Base

  -- behind a stem: the start before its node, and its dot unless a float had it
  abbrev before : Shape → List Event
  before c = D ++ code c (reach c)

  abbrev Stemmed : ℕ → Post Marker
  Stemmed a o E q = (s : Stem) × (o.0 ≡ length (before (first_shape s))) × In true (link_shape s) (before (first_shape s)) E × Covers ts p (stem_leaves s) q × (NoRanges ts → GroupedStem s) × (q ≡ a)

  dotted_wp : (b : Bool) (m : CompletedMarker) (E : List Event) (q : ℕ) → Stands b m E q → Wp ts (dotted b m) (Stemmed (name_at ts b q)) E q
  unfolding dotted first_shape code leaves Grouped whether
  dotted_wp true m E q h =
      precede_wp ts m give (Stemmed (name_at ts true q)) (shape.shape (lone h.0)) D E q (rooted (lone h.0)) h.1.0 h.1.1 (λ o v. (pointed h.0, v, refl, h.1.2, h.2, name_here ts q))
  dotted_wp false m E q h =
      weaken ts (lead m DOT) (Opens ts true (tk DOT) (tok DOT ∷ []) (before (shape.shape h.0)) q) (Stemmed (name_at ts false q)) E q (lead_wp ts m DOT (shape.shape h.0) D E q (rooted h.0) h.1.0 h.1.1)
      (λ o E' q' i. (tree.dotted h.0, i.0, i.1, covers_append ts p q q' (leaves h.0) (tok DOT ∷ []) h.1.2 i.2, λ n. ((h.3 n).1.0, (h.3 n).0), covers_end ts q DOT q' i.2 ∙ ap (λ (x : ℕ). q + x) dot_wide ∙ sym (name_behind ts q (covers_present ts q DOT q' i.2))))

  -- a node over a first part is closed: the tree t, whose shape and leaves these are
  close : (o : Marker) (k : ℕ) (c a : Shape) (l : List Leaf) (t : Tree) (E : List Event) (q : ℕ) → o.0 ≡ length (before c) → In true a (before c) E → Covers ts p l q
      → led shut k c a ≡ shape.shape t → l ≡ leaves t → Lhs t → (NoRanges ts → Grouped t × Bound ts q t) → Wp ts (complete o k give) Base E q
  close o k c a l t E q w i cv es el lh g =
      led_then ts o k c a l give Base D E p q w i cv
      (λ m E h. (t, subst (λ (sh : Shape). Makes ts sh (leaves t) D p m E q) es (subst (λ (x : List Leaf). Makes ts (led shut k c a) x D p m E q) el h), lh, g))

  await_wp : (b : Bool) (m : CompletedMarker) (E : List Event) (q : ℕ) → Stands b m E q → Wp ts (await_expr b m) Base E q
  unfolding await_expr bump then shape.shape leaves Grouped rank field_name
  await_wp b m E q h =
      after ts (dotted b m) _ (Stemmed (name_at ts b q)) Base E q (dotted_wp b m E q h)
      (λ o E' q' i. (
        λ k. close o AWAIT_EXPR (first_shape i.0) (both (link_shape i.0) (tk AWAIT_KW)) (stem_leaves i.0 ++ (tok AWAIT_KW ∷ [])) (await i.0) _ _ i.1
            (in_tok true (link_shape i.0) AWAIT_KW (width_of AWAIT_KW) (before (first_shape i.0)) E' i.2)
            (covers_append ts p q' (q' + width_of AWAIT_KW) (stem_leaves i.0) (tok AWAIT_KW ∷ []) i.3 (covers_tok ts q' AWAIT_KW k))
            refl refl (λ sh. refl) (λ n. (i.4 n, (omega arith, λ e. absurd (omega (arith, e))))),
        λ _. tt,
      ))

  -- "method name is IDENT"
  Named : List Event → ℕ → Post (Unit {0})
  Named A a _ E q = (E ≡ A ++ code (name_shape IDENT) 0) × Covers ts a (tok IDENT ∷ []) q

  name_wp : (A : List Event) (a : ℕ) → Wp ts (method_name ts) (Named A a) A a
  unfolding method_name no_generics Named
  name_wp A a =
      bound_by W _ _ (whether_by W _ _ _
      (λ e. after ts (leaf NAME_REF) _ (Makes ts (name_shape IDENT) (tok IDENT ∷ []) A a) (Named A a) A a (leaf_wp ts NAME_REF IDENT A a (eqb-true _ IDENT e) raw_ident)
      (λ m E q h. whether_by (At E q) _ _ _ (λ _. tt) (λ _. (h.0, h.2))))
      (λ _. tt))
    where
      W : Prog (Unit {0}) → Type 0
      W x = Wp ts x (Named A a) A a

      At : List Event → ℕ → Prog (Unit {0}) → Type 0
      At E q x = Wp ts x (Named A a) E q

  -- behind a stem and its method's name
  Headed : Post Marker
  Headed o E q = (s : Stem) × (o.0 ≡ length (before (first_shape s))) × In true (both (link_shape s) (name_shape IDENT)) (before (first_shape s)) E × Covers ts p (stem_leaves s ++ (tok IDENT ∷ [])) q × (NoRanges ts → GroupedStem s)

  head_wp : (b : Bool) (m : CompletedMarker) (E : List Event) (q : ℕ) → Stands b m E q → Wp ts (method_head ts b m) Headed E q
  unfolding method_head Named Headed
  head_wp b m E q h =
      after ts (dotted b m) _ (Stemmed (name_at ts b q)) Headed E q (dotted_wp b m E q h)
      (λ o E' q' i. after ts (method_name ts) _ (Named E' q') Headed E' q' (name_wp E' q')
      (λ _ E'' q'' j. (i.0, i.1, in_more true (link_shape i.0) (name_shape IDENT) (before (first_shape i.0)) E' E'' i.2 j.0, covers_append ts p q' q'' (stem_leaves i.0) (tok IDENT ∷ []) i.3 j.1, i.4)))

  module _ (read : ℕ → Rule) (reads : Reads ts read) where
    method_wp : (b : Bool) (m : CompletedMarker) (E : List Event) (q : ℕ) → Stands b m E q → Wp ts (method_call_expr ts read b m) Base E q
    unfolding method_call_expr shape.shape leaves Grouped rank Headed field_name
    method_wp b m E q h =
        after ts (method_head ts b m) _ Headed Base E q (head_wp b m E q h)
        (λ o E' q' i. after ts (arg_list ts read) _ (List_of ts E' q') Base E' q' (arg_list_wp ts read reads E' q')
        (λ _ E'' q'' j. close o METHOD_CALL_EXPR (first_shape i.0) (both (both (link_shape i.0) (name_shape IDENT)) (list_shape (args_shape j.0))) ((stem_leaves i.0 ++ (tok IDENT ∷ [])) ++ (tok L_PAREN ∷ (arg_leaves j.0 ++ (tok R_PAREN ∷ [])))) (method i.0 j.0) E'' q'' i.1
        (in_more true (both (link_shape i.0) (name_shape IDENT)) (list_shape (args_shape j.0)) (before (first_shape i.0)) E' E'' i.2 j.1.0)
        (covers_append ts p q' q'' (stem_leaves i.0 ++ (tok IDENT ∷ [])) (tok L_PAREN ∷ (arg_leaves j.0 ++ (tok R_PAREN ∷ []))) i.3 j.1.2)
        refl (append_assoc (stem_leaves i.0) (tok IDENT ∷ []) _) (λ sh. refl) (λ n. ((i.4 n, j.2 n), (omega arith, λ e. absurd (omega (arith, e)))))))

    call_wp : (m : CompletedMarker) (E : List Event) (q : ℕ) → Base m E q → eqb (kind_at ts q) L_PAREN ≡ true → Wp ts (call_expr ts read m) Base E q
    unfolding call_expr shape.shape leaves Grouped rank field_name
    call_wp m E q h opens =
        let t : Tree = h.0 in
        precede_wp ts m (λ o. then (arg_list ts read) λ _. complete o CALL_EXPR give) Base (shape.shape t) D E q (rooted t) h.1.0 h.1.1
        (λ o v. after ts (arg_list ts read) (λ _. complete o CALL_EXPR give) (List_of ts (before (shape.shape t) ++ (event.start live 0 true ∷ [])) q) Base (before (shape.shape t) ++ (event.start live 0 true ∷ [])) q (arg_list_wp ts read reads (before (shape.shape t) ++ (event.start live 0 true ∷ [])) q)
        (λ _ E' q' j. close o CALL_EXPR (shape.shape t) (list_shape (args_shape j.0)) (leaves t ++ (tok L_PAREN ∷ (arg_leaves j.0 ++ (tok R_PAREN ∷ [])))) (call t j.0) E' q' v
        (j.1.0 ∙ append_assoc (before (shape.shape t)) (event.start live 0 true ∷ []) _)
        (covers_append ts p q q' (leaves t) (tok L_PAREN ∷ (arg_leaves j.0 ++ (tok R_PAREN ∷ []))) h.1.2 j.1.2)
        refl refl (λ sh. refl) (λ n. (((h.3 n).1.0, λ e. (h.3 n).1.1 e opens, (h.3 n).0, j.2 n), (omega arith, λ e. absurd (omega (arith, e)))))))

    index_wp : (m : CompletedMarker) (E : List Event) (q : ℕ) → Base m E q → Wp ts (index_expr ts read m) Base E q
    unfolding index_expr shape.shape leaves Grouped rank field_name
    index_wp m E q h =
        let t : Tree = h.0 in
        after ts (lead m L_BRACK) _ (Opens ts true (tk L_BRACK) (tok L_BRACK ∷ []) (before (shape.shape t)) q) Base E q (lead_wp ts m L_BRACK (shape.shape t) D E q (rooted t) h.1.0 h.1.1)
        (λ o E' q' i. operand ts read reads 1 (omega arith) (closing R_BRACK EXPECTED_R_BRACK o INDEX_EXPR) Base E' q'
        (λ u E'' q'' e c g. weaken ts (closing R_BRACK EXPECTED_R_BRACK o INDEX_EXPR) (Makes ts (shape.shape (index t u)) (((leaves t ++ (tok L_BRACK ∷ [])) ++ leaves u) ++ (tok R_BRACK ∷ [])) D p) Base E'' q''
        (closing_led ts R_BRACK EXPECTED_R_BRACK INDEX_EXPR o (shape.shape t) (both (tk L_BRACK) (whole u)) ((leaves t ++ (tok L_BRACK ∷ [])) ++ leaves u) D E'' p q'' i.0 (in_more true (tk L_BRACK) (whole u) (before (shape.shape t)) E' E'' i.1 e)
        (covers_append ts p q' q'' (leaves t ++ (tok L_BRACK ∷ [])) (leaves u) (covers_append ts p q q' (leaves t) (tok L_BRACK ∷ []) h.1.2 i.2) c))
        (λ m E q k. (index t u, (k.0, k.1, subst (λ (l : List Leaf). Covers ts p l q) (brackets (leaves t) (leaves u)) k.2), λ sh. refl, λ n. (((h.3 n).1.0, (h.3 n).0, (g n).0), (omega arith, λ e. absurd (omega (arith, e))))))))
      where
        brackets : (a b : List Leaf) → ((a ++ (tok L_BRACK ∷ [])) ++ b) ++ (tok R_BRACK ∷ []) ≡ a ++ (tok L_BRACK ∷ (b ++ (tok R_BRACK ∷ [])))
        brackets a b = simp append_assoc

  try_wp : (m : CompletedMarker) (E : List Event) (q : ℕ) → Base m E q → Wp ts (try_expr m) Base E q
  unfolding try_expr shape.shape leaves Grouped rank field_name
  try_wp m E q h =
      let t : Tree = h.0 in
      after ts (lead m QUESTION) _ (Opens ts true (tk QUESTION) (tok QUESTION ∷ []) (before (shape.shape t)) q) Base E q (lead_wp ts m QUESTION (shape.shape t) D E q (rooted t) h.1.0 h.1.1)
      (λ o E' q' i. close o TRY_EXPR (shape.shape t) (tk QUESTION) (leaves t ++ (tok QUESTION ∷ [])) (try t) E' q' i.0 i.1 (covers_append ts p q q' (leaves t) (tok QUESTION ∷ []) h.1.2 i.2) refl refl (λ sh. refl) (λ n. (((h.3 n).1.0, (h.3 n).0), (omega arith, λ e. absurd (omega (arith, e))))))

  -- a turn's end
  Goes : Post (Next (CompletedMarker × Bool) CompletedMarker)
  Goes n E q = elim n [ again z ↦ Stands z.1 z.0 E q | done m ↦ Base m E q ]

  onward_wp : (x : Node) (E : List Event) (q : ℕ) → Wp ts x Base E q → Wp ts (onward x) Goes E q
  unfolding onward Goes
  onward_wp x E q w = after ts x _ Base Goes E q w (λ m E q h. h)

  named_wp : (o : Marker) (E : List Event) (a q : ℕ) → Stemmed a o E q → is_method ts a ≡ false → is_field_name (kind_at ts q) ≡ true → Wp ts (named_field o) Base E q
  unfolding named_field shape.shape leaves Grouped rank field_name
  named_wp o E a q i no_method f =
      let k : ℕ = kind_at ts q in
      after ts (leaf NAME_REF) _ (Makes ts (name_shape k) (tok k ∷ []) E q) Base E q (leaf_wp ts NAME_REF k E q refl (raw_name k f))
      (λ m E' q' h. close o FIELD_EXPR (first_shape i.0) (both (link_shape i.0) (name_shape k)) (stem_leaves i.0 ++ (tok k ∷ [])) (field i.0 k) E' q' i.1
      (in_more true (link_shape i.0) (name_shape k) (before (first_shape i.0)) E E' i.2 h.0) (covers_append ts p q q' (stem_leaves i.0) (tok k ∷ []) i.3 h.2) refl refl (λ sh. refl) (λ n. ((is_name k f, i.4 n), (omega arith, λ e c. not_method ts q (subst (λ (x : ℕ). is_method ts x ≡ false) (sym i.5) no_method) e (subst (λ (x : ℕ). eqb (kind_at ts x) L_PAREN ≡ true) (covers_end ts q k q' h.2 ∙ ap (λ (x : ℕ). q + x) (ap width_of e ∙ ident_wide)) c)))))

  -- a float that ends in a dot, and one that is two names
  dot_code : (s : Stem) → before (first_shape s) ++ (event.start (event.named FIELD_EXPR) 0 true ∷ (code (link_shape s) 0 ++ (event.split true ∷ event.finish ∷ []))) ≡ D ++ code (shape.shape (lone s)) 0
  unfolding code shape.shape
  dot_code s = append_assoc D (code (first_shape s) (reach (first_shape s))) _

  dot_root : (s : Stem) → length (before (first_shape s)) ≡ length D + root (shape.shape (lone s))
  unfolding root shape.shape
  dot_root s = length-append D _ ∙ ap (λ (n : ℕ). length D + n) (size_is (first_shape s) (reach (first_shape s)))

  two_code : (s : Stem) → before (first_shape s) ++ (event.start (event.named FIELD_EXPR) (suc (length (code (link_shape s) 0))) true ∷ (code (link_shape s) 0 ++ (event.start (event.named FIELD_EXPR) 0 false ∷ event.split false ∷ event.finish ∷ []))) ≡ D ++ code (shape.shape (two_fields s)) 0
  unfolding code reach shape.shape
  two_code s =
      let n : length (code (link_shape s) 0) ≡ size (link_shape s) + 0 = omega (arith, size_is (link_shape s) 0) in
      append_assoc D (code (first_shape s) (reach (first_shape s))) _
      ∙ ap (λ (i : ℕ). D ++ (code (first_shape s) (reach (first_shape s)) ++ (event.start (event.named FIELD_EXPR) (suc i) true ∷ (code (link_shape s) 0 ++ (event.start (event.named FIELD_EXPR) 0 false ∷ event.split false ∷ event.finish ∷ []))))) n
      ∙ ap (λ (l : List Event). D ++ (code (first_shape s) (reach (first_shape s)) ++ (event.start (event.named FIELD_EXPR) (suc (size (link_shape s) + 0)) true ∷ (l ++ (event.start (event.named FIELD_EXPR) 0 false ∷ event.split false ∷ event.finish ∷ []))))) (sym (append-nil (code (link_shape s) 0)))
      ∙ ap (λ (l : List Event). D ++ l) (sym (append_assoc (code (first_shape s) (reach (first_shape s))) _ _))

  two_root : (s : Stem) → length (before (first_shape s)) + suc (length (code (link_shape s) 0)) ≡ length D + root (shape.shape (two_fields s))
  unfolding root size shape.shape
  two_root s = omega (arith, length-append D (code (first_shape s) (reach (first_shape s))), size_is (first_shape s) (reach (first_shape s)), size_is (link_shape s) 0)

  float_wp : (o : Marker) (E : List Event) (a q : ℕ) → Stemmed a o E q → Wp ts (float_field ts o) Goes E q
  unfolding float_field leaves Grouped rank Goes field_name
  float_wp o E a q i =
      bound_by (λ (x : Turned). Wp ts x Goes E q) _ _ (
        before (first_shape i.0),
        code (link_shape i.0) 0,
        true,
        i.2,
        i.1,
        (λ t j m v. subst (λ (b : Bool). Stands b m (before (first_shape i.0) ++ (event.start (event.named FIELD_EXPR) 0 true ∷ (code (link_shape i.0) 0 ++ (event.split true ∷ event.finish ∷ [])))) (q + 1)) (sym j)
            (i.0, (dot_code i.0, v ∙ dot_root i.0, covers_append ts p q (q + 1) (stem_leaves i.0) (float true ∷ []) i.3 (covers_float ts q true t j)), i.4)),
        (λ t j m v. subst (λ (b : Bool). Stands b m (before (first_shape i.0) ++ (event.start (event.named FIELD_EXPR) (suc (length (code (link_shape i.0) 0))) true ∷ (code (link_shape i.0) 0 ++ (event.start (event.named FIELD_EXPR) 0 false ∷ event.split false ∷ event.finish ∷ [])))) (q + 1)) (sym j)
            (two_fields i.0, (two_code i.0, v ∙ two_root i.0, covers_append ts p q (q + 1) (stem_leaves i.0) (float false ∷ []) i.3 (covers_float ts q false t j)), λ sh. refl, λ n. (i.4 n, (omega arith, λ e. absurd (omega (arith, e)))))),
        λ _. tt,
      )

  field_wp : (b : Bool) (m : CompletedMarker) (E : List Event) (q : ℕ) → Stands b m E q → is_method ts (name_at ts b q) ≡ false → Wp ts (field_expr ts b m) Goes E q
  unfolding field_expr rule.field no_field then onward
  field_wp b m E q h no_method = after ts (dotted b m) _ (Stemmed (name_at ts b q)) Goes E q (dotted_wp b m E q h)
      (λ o E' q' i. bound_by (At E' q') _ _ (whether_by (At E' q') _ _ _ (λ f. onward_wp (named_field o) E' q' (named_wp o E' (name_at ts b q) q' i no_method f)) (λ _. whether_by (At E' q') _ _ _ (λ _. float_wp o E' (name_at ts b q) q' i) (λ _. tt))))
    where
      At : List Event → ℕ → Turned → Type 0
      At E q x = Wp ts x Goes E q

  -- before a range the postfix forms end
  dots_wp : (b : Bool) (m : CompletedMarker) (E : List Event) (q : ℕ) → Stands b m E q → is_dots ts q ≡ true → Base m E q
  unfolding is_dots Grouped
  dots_wp true m E q h d = (lone h.0, h.1, λ sh. refl, λ n. absurd (ranged n d))
    where
      ranged : NoRanges ts → whether (present ts q DOT2EQ) (λ _. true) (λ _. present ts q DOT2) ≡ true → ⊥
      ranged n = whether_by (λ z. z ≡ true → ⊥) _ _ _ (λ e _. no_dots ts q (n q) e) (λ _ e. false≢true (sym (n q) ∙ e))
  dots_wp false m E q h d = h

  module _ (read : ℕ → Rule) (reads : Reads ts read) where
    dot_wp : (b : Bool) (m : CompletedMarker) (E : List Event) (q : ℕ) → Stands b m E q → Wp ts (postfix_dot_expr ts read b m) Goes E q
    unfolding postfix_dot_expr Goes
    dot_wp b m E q h =
        bound_by W _ _
        (whether_by W _ _ _ (λ _. onward_wp (method_call_expr ts read b m) E q (method_wp read reads b m E q h))
        (λ no_method. bound_by W _ _ (whether_by W _ _ _ (λ _. onward_wp (await_expr b m) E q (await_wp b m E q h))
        (λ _. whether_by W _ _ _ (λ d. dots_wp b m E q h d) (λ _. field_wp b m E q h no_method)))))
      where
        W : Turned → Type 0
        W x = Wp ts x Goes E q

    turn_wp : (z : CompletedMarker × Bool) (E : List Event) (q : ℕ) → Stands z.1 z.0 E q → Wp ts (postfix_turn ts read z) Goes E q
    unfolding postfix_turn Goes
    turn_wp z E q h =
        whether_by W _ _ _ (λ e. dot_wp true z.0 E q (subst (λ (b : Bool). Stands b z.0 E q) e h))
        (λ e. let i : Base z.0 E q = subst (λ (b : Bool). Stands b z.0 E q) e h in
        bound_by W _ _
        (whether_by W _ _ _ (λ o. onward_wp (call_expr ts read z.0) E q (call_wp read reads z.0 E q i o))
        (λ _. whether_by W _ _ _ (λ _. onward_wp (index_expr ts read z.0) E q (index_wp read reads z.0 E q i))
        (λ _. whether_by W _ _ _ (λ _. dot_wp false z.0 E q i)
        (λ _. whether_by W _ _ _ (λ _. onward_wp (try_expr z.0) E q (try_wp z.0 E q i)) (λ _. i))))))
      where
        W : Turned → Type 0
        W x = Wp ts x Goes E q

    pub postfix_wp : (m : CompletedMarker) (E : List Event) (q : ℕ) → Base m E q → Wp ts (postfix_expr ts read m) Base E q
    unfolding postfix_expr Goes
    postfix_wp m E q h = round ts (postfix_turn ts read) (λ z. Stands z.1 z.0) Base turn_wp (suc (suc (2 * length ts.kinds))) (m, false) E q h
