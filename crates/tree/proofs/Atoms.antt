-- The left part of an expression: a prefix and its operand, a leading range, or an atom with its postfix forms. Assumes nothing.
use mathlib.Core.Path.{◌≡◌, refl, sym, subst, ap, ◌∙◌}
use mathlib.Core.List.{List, [], ◌∷◌, ◌++◌}
use mathlib.Core.Bool.{Bool, true, false, false≢true}
use mathlib.Core.Logic.{◌⊎◌, inl, inr}
use Prim.Native.Nat.{ℕ, ◌+◌}
use native.Mathlib.Omega.{arith}
use lib.ListN.{length}
use lib.Dec.{eqb}
use borrow.Author.Tests.{eqb-true}
use Rattle.base.specs.Base.{whether}
use Rattle.base.proofs.Cases.{whether_by, bound_by}
use Rattle.input.specs.SyntaxKind.{IDENT, INT_NUMBER, FLOAT_NUMBER, STRING, TRUE_KW, FALSE_KW, MUT_KW, L_PAREN, R_PAREN, DOT, AMP, DOT2, DOT2EQ, LITERAL, PATH_EXPR, PAREN_EXPR, REF_EXPR, PREFIX_EXPR, RANGE_EXPR, EXPECTED_R_PAREN}
use Rattle.input.specs.Input.{Tokens, kind_at, width_of, is_raw}
use Rattle.event.specs.Event.{Event}
use Rattle.parser.specs.Prog.{give, complete, eat, then}
use Rattle.parser.specs.declared.Marker.{Marker}
use Rattle.parser.specs.declared.CompletedMarker.{CompletedMarker}
use Rattle.operators.specs.TokenSet.{is_first, is_prefix, outside_atom}
use Rattle.atoms.specs.Atom.{Node, begin, closing, leaf, err_recover, path_node}
use Rattle.grammar.specs.Expressions.{Rule, lone_dot, plain_atom, anyway, begin_ref, paren_tail, paren_body, paren_expr, atom_expr, atom_postfix, postfix_expr, ref_expr, prefix_expr, leading_range, range_or_atom, lhs}
use Rattle.tree.specs.Tree.{Tree, literal, name, paren, prefix, borrowed, borrowed_mut, bare, up_to, Leaf, tok, leaves, Covers}
use Rattle.tree.specs.Table.{holds}
use Rattle.tree.specs.Grouped.{rank, field_name, literals, prefixes, Grouped, NoRanges}
use Rattle.tree.proofs.Shape as shape
use Rattle.tree.proofs.Shape.{Shape, both, node, tk, path_shape, whole}
use Rattle.tree.proofs.Wp.{Post, Wp, after, weaken}
use Rattle.tree.proofs.Nodes.{In, Opens, Makes, Never, in_more, in_tok, covers_append, covers_tok, begin_wp, node_then, leaf_wp, closing_node}
use Rattle.tree.proofs.Paths.{Path, recover_wp, path_node_wp}
use Rattle.tree.proofs.Operators.{no_dots, floor_top}
use Rattle.tree.proofs.Reading.{Ends, Expr, Lhs, Left, Tight, Some, Reads, yields_wp, then_some, given_wp, operand}
use Rattle.tree.proofs.Postfix.{Base, postfix_wp}

-- one of a list: it is the first, or one of the others
walk : {C : Type 0} (b : Bool) (f : Unit {0} → Bool) → whether b (λ _. true) f ≡ true → (b ≡ true → C) → (f tt ≡ true → C) → C
unfolding whether
walk true f h x y = x refl
walk false f h x y = y h

-- none of a list: neither the first, nor one of the others
neither : (b : Bool) (f : Unit {0} → Bool) → whether b (λ _. true) f ≡ false → (b ≡ false) × (f tt ≡ false)
unfolding whether
neither true f h = absurd (false≢true (sym h))
neither false f h = (refl, h)

clash : {C : Type 0} {b : Bool} → b ≡ true → b ≡ false → C
clash p q = absurd (false≢true (sym q ∙ p))

-- a first token that is none of those tested before is a literal
literal_kind : (k : ℕ) (j : ℕ) → eqb k j ≡ true → holds j literals ≡ true → holds k literals ≡ true
literal_kind k j e h = ap (λ (i : ℕ). holds i literals) (eqb-true k j e) ∙ h

record Held : Type 0 where
  int : holds INT_NUMBER literals ≡ true
  float : holds FLOAT_NUMBER literals ≡ true
  str : holds STRING literals ≡ true
  yes_kw : holds TRUE_KW literals ≡ true
  no_kw : holds FALSE_KW literals ≡ true

held : Held
unfolding holds whether
held = record { int = refl; float = refl; str = refl; yes_kw = refl; no_kw = refl }

first_literal : (k : ℕ) → is_first k ≡ true → eqb k AMP ≡ false → is_prefix k ≡ false → eqb k IDENT ≡ false → eqb k L_PAREN ≡ false → outside_atom k ≡ false → eqb k DOT ≡ false → holds k literals ≡ true
unfolding is_first is_prefix outside_atom
first_literal k h amp pre id par out dot =
    let p1 = neither _ _ pre in let p2 = neither _ _ p1.1 in let p3 = neither _ _ p2.1 in
    let o1 = neither _ _ out in let o2 = neither _ _ o1.1 in let o3 = neither _ _ o2.1 in let o4 = neither _ _ o3.1 in
    walk _ _ h (λ e. clash e id)
    (λ h. walk _ _ h (λ e. literal_kind k INT_NUMBER e held.int)
    (λ h. walk _ _ h (λ e. literal_kind k FLOAT_NUMBER e held.float)
    (λ h. walk _ _ h (λ e. literal_kind k STRING e held.str)
    (λ h. walk _ _ h (λ e. literal_kind k TRUE_KW e held.yes_kw)
    (λ h. walk _ _ h (λ e. literal_kind k FALSE_KW e held.no_kw)
    (λ h. walk _ _ h (λ e. clash e par)
    (λ h. walk _ _ h (λ e. clash e o4.0)
    (λ h. walk _ _ h (λ e. clash e o3.0)
    (λ h. walk _ _ h (λ e. clash e amp)
    (λ h. walk _ _ h (λ e. clash e o1.0)
    (λ h. walk _ _ h (λ e. clash e p1.0)
    (λ h. walk _ _ h (λ e. clash e p2.0)
    (λ h. walk _ _ h (λ e. clash e dot)
    (λ h. walk _ _ h (λ e. clash e p3.0)
    (λ h. walk _ _ h (λ e. clash e o2.0) (λ h. absurd (false≢true h)))))))))))))))))

record Raws : Type 0 where
  int : is_raw INT_NUMBER ≡ true
  float : is_raw FLOAT_NUMBER ≡ true
  str : is_raw STRING ≡ true
  yes_kw : is_raw TRUE_KW ≡ true
  no_kw : is_raw FALSE_KW ≡ true

raws : Raws
unfolding is_raw whether
raws = record { int = refl; float = refl; str = refl; yes_kw = refl; no_kw = refl }

literal_raw : (k : ℕ) → holds k literals ≡ true → is_raw k ≡ true
unfolding holds
literal_raw k h =
    walk _ _ h (λ e. ap is_raw (eqb-true k INT_NUMBER e) ∙ raws.int)
    (λ h. walk _ _ h (λ e. ap is_raw (eqb-true k FLOAT_NUMBER e) ∙ raws.float)
    (λ h. walk _ _ h (λ e. ap is_raw (eqb-true k STRING e) ∙ raws.str)
    (λ h. walk _ _ h (λ e. ap is_raw (eqb-true k TRUE_KW e) ∙ raws.yes_kw)
    (λ h. walk _ _ h (λ e. ap is_raw (eqb-true k FALSE_KW e) ∙ raws.no_kw) (λ h. absurd (false≢true h))))))

prefix_held : (k : ℕ) → is_prefix k ≡ true → holds k prefixes ≡ true
unfolding is_prefix holds
prefix_held k h = h

module _ (ts : Tokens) (read : ℕ → Rule) (reads : Reads ts read) (D : List Event) (p : ℕ) where
  -- a plain node is closed: the tree t, whose shape and leaves these are
  close : (C : ℕ → Tree → Type 0) (o : Marker) (k : ℕ) (a : Shape) (l : List Leaf) (t : Tree) (E : List Event) (q : ℕ) → o.0 ≡ length D → In false a D E → Covers ts p l q
      → node k a ≡ shape.shape t → l ≡ leaves t → Lhs t → (NoRanges ts → Grouped t × C q t) → Wp ts (complete o k give) (Left ts C D p) E q
  close C o k a l t E q w i cv es el lh g =
      node_then ts o k a l give (Left ts C D p) D E p q w i cv
      (λ m E h. (t, subst (λ (sh : Shape). Makes ts sh (leaves t) D p m E q) es (subst (λ (x : List Leaf). Makes ts (node k a) x D p m E q) el h), lh, g))

  abbrev Lefts : Post CompletedMarker
  Lefts = Left ts Tight D p

  prefix_wp : (k : ℕ) → is_prefix k ≡ true → Wp ts (prefix_expr ts read k) Lefts D p
  unfolding prefix_expr shape.shape leaves Grouped rank
  prefix_wp k h =
      after ts (begin k) _ (Opens ts false (tk k) (tok k ∷ []) D p) Lefts D p (begin_wp ts k D p)
      (λ o E q i. operand ts read reads 255 (omega arith) (complete o PREFIX_EXPR give) Lefts E q
      (λ t E' q' e c g. close Tight o PREFIX_EXPR (both (tk k) (whole t)) (tok k ∷ leaves t) (prefix k t) E' q' i.0 (in_more false (tk k) (whole t) D E E' i.1 e) (covers_append ts p q q' (tok k ∷ []) (leaves t) i.2 c) refl refl (λ sh. refl)
      (λ n. ((prefix_held k h, omega (arith, (g n).1.0, floor_top), (g n).0), omega arith))))

  ref_wp : Wp ts (ref_expr ts read) Lefts D p
  unfolding ref_expr begin_ref shape.shape leaves Grouped rank
  ref_wp =
      after ts (then (begin AMP) (λ o. eat MUT_KW (give o) (give o))) _ Q Lefts D p
      (after ts (begin AMP) _ (Opens ts false (tk AMP) (tok AMP ∷ []) D p) Q D p (begin_wp ts AMP D p)
      (λ o E q i. (λ h. inr (i.0, in_tok false (tk AMP) MUT_KW (width_of MUT_KW) D E i.1, covers_append ts p q (q + width_of MUT_KW) (tok AMP ∷ []) (tok MUT_KW ∷ []) i.2 (covers_tok ts q MUT_KW h)), λ _. inl i)))
      go
    where
      Q : Post Marker
      Q o E q = Opens ts false (tk AMP) (tok AMP ∷ []) D p o E q ⊎ Opens ts false (both (tk AMP) (tk MUT_KW)) (tok AMP ∷ tok MUT_KW ∷ []) D p o E q

      go : (o : Marker) (E : List Event) (q : ℕ) → Q o E q → Wp ts (anyway (read 255) (complete o REF_EXPR give)) Lefts E q
      go o E q (inl i) =
          operand ts read reads 255 (omega arith) (complete o REF_EXPR give) Lefts E q
          (λ t E' q' e c g. close Tight o REF_EXPR (both (tk AMP) (whole t)) (tok AMP ∷ leaves t) (borrowed t) E' q' i.0 (in_more false (tk AMP) (whole t) D E E' i.1 e) (covers_append ts p q q' (tok AMP ∷ []) (leaves t) i.2 c) refl refl (λ sh. refl)
          (λ n. ((omega (arith, (g n).1.0, floor_top), (g n).0), omega arith)))
      go o E q (inr i) =
          operand ts read reads 255 (omega arith) (complete o REF_EXPR give) Lefts E q
          (λ t E' q' e c g. close Tight o REF_EXPR (both (both (tk AMP) (tk MUT_KW)) (whole t)) (tok AMP ∷ tok MUT_KW ∷ leaves t) (borrowed_mut t) E' q' i.0 (in_more false (both (tk AMP) (tk MUT_KW)) (whole t) D E E' i.1 e) (covers_append ts p q q' (tok AMP ∷ tok MUT_KW ∷ []) (leaves t) i.2 c) refl refl (λ sh. refl)
          (λ n. ((omega (arith, (g n).1.0, floor_top), (g n).0), omega arith)))

  -- a leading range, which a list without ranges does not have
  range_wp : (k : ℕ) → (NoRanges ts → ⊥) → Wp ts (leading_range ts read k) Lefts D p
  unfolding leading_range shape.shape leaves
  range_wp k ranged =
      after ts (begin k) _ (Opens ts false (tk k) (tok k ∷ []) D p) Lefts D p (begin_wp ts k D p)
      (λ o E q i. whether_by (At E q) _ _ _
      (λ _. operand ts read reads 2 (omega arith) (complete o RANGE_EXPR give) Lefts E q
      (λ t E' q' e c g. close Tight o RANGE_EXPR (both (tk k) (whole t)) (tok k ∷ leaves t) (up_to k t) E' q' i.0 (in_more false (tk k) (whole t) D E E' i.1 e) (covers_append ts p q q' (tok k ∷ []) (leaves t) i.2 c) refl refl (λ sh. refl) (λ n. absurd (ranged n))))
      (λ _. close Tight o RANGE_EXPR (tk k) (tok k ∷ []) (bare k) E q i.0 i.1 i.2 refl refl (λ sh. refl) (λ n. absurd (ranged n))))
    where
      At : List Event → ℕ → Node → Type 0
      At E q x = Wp ts x Lefts E q

  abbrev Bases : Post CompletedMarker
  Bases = Base ts D p

  paren_wp : Wp ts (paren_expr ts read) Bases D p
  unfolding paren_expr paren_body paren_tail shape.shape leaves Grouped rank field_name
  paren_wp =
      after ts (begin L_PAREN) _ (Opens ts false (tk L_PAREN) (tok L_PAREN ∷ []) D p) Bases D p (begin_wp ts L_PAREN D p)
      (λ o E q i. bound_by (At E q) _ _ (whether_by (At E q) _ _ _ (λ _. tt)
      (λ _. then_some ts (read 1) _ _ (Expr ts (Ends ts 1) E q) Bases E q (reads 1 (omega arith) E q)
      (λ m E' q' h. bound_by (At E' q') _ _ (whether_by (At E' q') _ _ _ (λ _. tt)
      (λ _. weaken ts (closing R_PAREN EXPECTED_R_PAREN o PAREN_EXPR) (Makes ts (shape.shape (paren h.0)) (tok L_PAREN ∷ (leaves h.0 ++ (tok R_PAREN ∷ []))) D p) Bases E' q'
      (closing_node ts R_PAREN EXPECTED_R_PAREN PAREN_EXPR o (both (tk L_PAREN) (whole h.0)) (tok L_PAREN ∷ leaves h.0) D E' p q' i.0 (in_more false (tk L_PAREN) (whole h.0) D E E' i.1 h.1.0) (covers_append ts p q q' (tok L_PAREN ∷ []) (leaves h.0) i.2 h.1.2))
      (λ m E q k. (paren h.0, k, λ sh. refl, λ n. ((h.2 n).0, (omega arith, λ e. absurd (omega (arith, e))))))))))))
    where
      At : List Event → ℕ → Node → Type 0
      At E q x = Wp ts x Bases E q

  path_wp : kind_at ts p ≡ IDENT → Wp ts (path_node ts PATH_EXPR) Bases D p
  unfolding shape.shape leaves Grouped rank field_name
  path_wp e = weaken ts (path_node ts PATH_EXPR) (Path ts (λ n. node PATH_EXPR (path_shape n)) D p) Bases D p (path_node_wp ts PATH_EXPR D p e) (λ m E q h. (name h.0, h.1, λ sh. refl, λ n. (tt, (omega arith, λ e. absurd (omega (arith, e))))))

  literal_wp : holds (kind_at ts p) literals ≡ true → Wp ts (leaf LITERAL) Bases D p
  unfolding shape.shape leaves Grouped rank field_name
  literal_wp h =
      weaken ts (leaf LITERAL) (Makes ts (node LITERAL (shape.tok (kind_at ts p) 1)) (tok (kind_at ts p) ∷ []) D p) Bases D p (leaf_wp ts LITERAL (kind_at ts p) D p refl (literal_raw (kind_at ts p) h))
      (λ m E q k. (literal (kind_at ts p), k, λ sh. refl, λ n. (h, (omega arith, λ e. absurd (omega (arith, e))))))

  module _ (first : is_first (kind_at ts p) ≡ true) (amp : eqb (kind_at ts p) AMP ≡ false) (pre : is_prefix (kind_at ts p) ≡ false) where
    atom_wp : Wp ts (atom_expr ts read) (Some Bases) D p
    unfolding atom_expr plain_atom lone_dot
    atom_wp =
        bound_by W _ _
        (whether_by W _ _ _ (λ e. yields_wp ts (path_node ts PATH_EXPR) Bases D p (path_wp (eqb-true _ IDENT e)))
        (λ id. whether_by W _ _ _ (λ _. yields_wp ts (paren_expr ts read) Bases D p paren_wp)
        (λ par. bound_by W _ _ (whether_by W _ _ _ (λ _. tt)
        (λ out. whether_by W _ _ _ (λ _. after ts (err_recover ts) _ Never (Some Bases) D p (recover_wp ts D p) (λ _ E q h. absurd h))
        (λ dot. yields_wp ts (leaf LITERAL) Bases D p (literal_wp (first_literal (kind_at ts p) first amp pre id par out dot))))))))
      where
        W : Rule → Type 0
        W x = Wp ts x (Some Bases) D p

    atom_postfix_wp : Wp ts (atom_postfix ts read) (Some Lefts) D p
    unfolding atom_postfix
    atom_postfix_wp =
        given_wp ts (atom_expr ts read) _ Bases (Some Lefts) D p atom_wp
        (λ m E q h. yields_wp ts (postfix_expr ts read m) Lefts E q (weaken ts (postfix_expr ts read m) Bases Lefts E q (postfix_wp ts D p read reads m E q h) (λ m E q k. (k.0, k.1, k.2, λ n. ((k.3 n).0, omega (arith, (k.3 n).1.0))))))

    range_or_atom_wp : Wp ts (range_or_atom ts read) (Some Lefts) D p
    unfolding range_or_atom
    range_or_atom_wp =
        whether_by W _ _ _ (λ e. yields_wp ts (leading_range ts read DOT2EQ) Lefts D p (range_wp DOT2EQ (λ n. no_dots ts p (n p) e)))
        (λ _. whether_by W _ _ _ (λ e. yields_wp ts (leading_range ts read DOT2) Lefts D p (range_wp DOT2 (λ n. false≢true (sym (n p) ∙ e)))) (λ _. atom_postfix_wp))
      where
        W : Rule → Type 0
        W x = Wp ts x (Some Lefts) D p

  pub lhs_wp : is_first (kind_at ts p) ≡ true → Wp ts (lhs ts read) (Some Lefts) D p
  unfolding lhs
  lhs_wp first =
      bound_by W _ _
      (whether_by W _ _ _ (λ _. yields_wp ts (ref_expr ts read) Lefts D p ref_wp)
      (λ amp. whether_by W _ _ _ (λ h. yields_wp ts (prefix_expr ts read (kind_at ts p)) Lefts D p (prefix_wp (kind_at ts p) h)) (λ pre. range_or_atom_wp first amp pre)))
    where
      W : Rule → Type 0
      W x = Wp ts x (Some Lefts) D p
