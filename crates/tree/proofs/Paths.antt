-- The rules that read no expression inside: a path is the shape of its number of names, a cast type is one, and an error rule never comes back. Assumes nothing.
use mathlib.Core.Path.{◌≡◌, refl, ap, ◌∙◌}
use mathlib.Core.List.{List, [], ◌∷◌, ◌++◌, append_assoc}
use mathlib.Core.Bool.{true, false}
use Prim.Native.Nat.{ℕ, zero, suc, ◌+◌}
use native.Mathlib.Omega.{arith}
use lib.ListN.{length}
use borrow.Author.Tests.{eqb-true}
use Rattle.base.specs.Base.{whether, Next, again, done}
use Rattle.base.proofs.Cases.{whether_by, bound_by}
use Rattle.input.specs.SyntaxKind.{IDENT, COLON2, PATH, PATH_SEGMENT, NAME_REF, PATH_TYPE}
use Rattle.input.specs.Input.{Tokens, kind_at, width_of, parts_of, is_glued, row_of, row_parts, glued_table, is_raw}
use Rattle.event.specs.Event as event
use Rattle.event.specs.Event.{Event, live}
use Rattle.parser.specs.Prog.{Prog, give, complete, then}
use Rattle.parser.specs.declared.Marker.{Marker}
use Rattle.parser.specs.declared.CompletedMarker.{CompletedMarker}
use Rattle.atoms.specs.Atom.{Part, lead, leaf, begin_error, err_and_bump, err_recover, turning, segment, first_path, qualified, path_turn, path_rest, path, no_macro, plain_path, path_node, after_type, path_type, cast_type}
use Rattle.tree.specs.Tree as tree
use Rattle.tree.specs.Tree.{tok, rest, Covers}
use Rattle.tree.proofs.Shape.{Shape, both, node, code, root, reach, Rooted, tk, name_shape, segment_shape, path_shape}
use Rattle.tree.proofs.Wp.{Post, Wp, after, round}
use Rattle.tree.proofs.Nodes.{Opens, Makes, Never, in_more, covers_append, covers_end, lead_wp, node_wp, led_wp, leaf_wp}

-- rules that end in an error
pub err_wp : (ts : Tokens) (E : List Event) (q : ℕ) → Wp ts err_and_bump Never E q
unfolding err_and_bump begin_error then
err_wp ts E q = λ o w. tt

pub recover_wp : (ts : Tokens) (E : List Event) (q : ℕ) → Wp ts (err_recover ts) Never E q
unfolding err_recover
recover_wp ts E q = bound_by (λ (x : Part). Wp ts x Never E q) _ _ (whether_by (λ (x : Part). Wp ts x Never E q) _ _ _ (λ _. tt) (λ _. err_wp ts E q))

pub path_rooted : (n : ℕ) → Rooted (path_shape n)
unfolding path_shape
path_rooted zero = tt
path_rooted (suc n) = path_rooted n

-- a path of some number of names, under a shape of it
abbrev pub Path : Tokens → (ℕ → Shape) → List Event → ℕ → Post CompletedMarker
Path ts sh D p m E q = (n : ℕ) × Makes ts (sh n) (tree.path n) D p m E q

pub raw_ident : is_raw IDENT ≡ true
unfolding is_raw whether
raw_ident = refl

module _ (ts : Tokens) where
  segment_wp : (D : List Event) (q : ℕ) → kind_at ts q ≡ IDENT → Wp ts segment (Makes ts segment_shape (tok IDENT ∷ []) D q) D q
  unfolding segment
  segment_wp D q e = λ o w.
      after ts (leaf NAME_REF) _ (Makes ts (name_shape IDENT) (tok IDENT ∷ []) (D ++ (event.start live 0 false ∷ [])) q) _ _ q (leaf_wp ts NAME_REF IDENT (D ++ (event.start live 0 false ∷ [])) q e raw_ident)
      (λ m E q' h. node_wp ts o PATH_SEGMENT (name_shape IDENT) (tok IDENT ∷ []) D E q q' w (h.0 ∙ append_assoc D _ _) h.2)

  first_wp : (D : List Event) (q : ℕ) → kind_at ts q ≡ IDENT → Wp ts first_path (Makes ts (path_shape 0) (tree.path 0) D q) D q
  unfolding first_path path_shape tree.path rest
  first_wp D q e = λ o w.
      after ts segment _ (Makes ts segment_shape (tok IDENT ∷ []) (D ++ (event.start live 0 false ∷ [])) q) _ _ q (segment_wp (D ++ (event.start live 0 false ∷ [])) q e)
      (λ m E q' h. node_wp ts o PATH segment_shape (tok IDENT ∷ []) D E q q' w (h.0 ∙ append_assoc D _ _) h.2)

  -- `::` is two raw tokens wide
  wide : (q : ℕ) → q + width_of COLON2 ≡ q + 2
  unfolding width_of parts_of is_glued row_of row_parts glued_table whether
  wide q = refl

  qualified_wp : (m : CompletedMarker) (n : ℕ) (D E : List Event) (p q : ℕ) → Makes ts (path_shape n) (tree.path n) D p m E q → kind_at ts (q + 2) ≡ IDENT → Wp ts (qualified m) (Makes ts (path_shape (suc n)) (tree.path (suc n)) D p) E q
  unfolding qualified path_shape tree.path rest
  qualified_wp m n D E p q h e =
      let C : Shape = path_shape n in
      after ts (lead m COLON2) _ (Opens ts true (tk COLON2) (tok COLON2 ∷ []) (D ++ code C (reach C)) q) _ E q (lead_wp ts m COLON2 C D E q (path_rooted n) h.0 h.1)
      (λ o E' q' i. after ts segment _ (Makes ts segment_shape (tok IDENT ∷ []) E' q') _ E' q' (segment_wp E' q' (ap (kind_at ts) (covers_end ts q COLON2 q' i.2 ∙ wide q) ∙ e))
      (λ m' E'' q'' j. led_wp ts o PATH C (both (tk COLON2) segment_shape) (tok IDENT ∷ (rest n ++ (tok COLON2 ∷ tok IDENT ∷ []))) D E'' p q'' i.0 (in_more true (tk COLON2) segment_shape (D ++ code C (reach C)) E' E'' i.1 j.0)
      (covers_append ts p q q'' (tok IDENT ∷ rest n) (tok COLON2 ∷ tok IDENT ∷ []) h.2 (covers_append ts q q' q'' (tok COLON2 ∷ []) (tok IDENT ∷ []) i.2 j.2))))

  module _ (D : List Event) (p : ℕ) where
    abbrev Paths : Post CompletedMarker
    Paths = Path ts path_shape D p

    turn_wp : (m : CompletedMarker) (E : List Event) (q : ℕ) → Paths m E q → Wp ts (path_turn ts m) (λ n E q. elim n [ again z ↦ Paths z E q | done a ↦ Paths a E q ]) E q
    unfolding path_turn turning
    turn_wp m E q h =
        whether_by W _ _ _
        (λ _. bound_by W _ _ (whether_by W _ _ _
        (λ e. after ts (qualified m) _ (Makes ts (path_shape (suc h.0)) (tree.path (suc h.0)) D p) Q E q (qualified_wp m h.0 D E p q h.1 (eqb-true _ IDENT e)) (λ m' E' q' i. (suc h.0, i)))
        (λ _. tt)))
        (λ _. h)
      where
        Q : Post (Next CompletedMarker CompletedMarker)
        Q n E q = elim n [ again z ↦ Paths z E q | done a ↦ Paths a E q ]

        W : Prog (Next CompletedMarker CompletedMarker) → Type 0
        W x = Wp ts x Q E q

    path_wp : kind_at ts p ≡ IDENT → Wp ts (path ts) Paths D p
    unfolding path path_rest
    path_wp e =
        after ts first_path _ (Makes ts (path_shape 0) (tree.path 0) D p) Paths D p (first_wp D p e)
        (λ m E q h. round ts (path_turn ts) Paths Paths turn_wp (suc (length ts.kinds)) m E q (0, h))

    -- what follows a path adds nothing
    macro_wp : (E : List Event) (q : ℕ) (R : Post (Unit {0})) → R tt E q → Wp ts (no_macro ts) R E q
    unfolding no_macro
    macro_wp E q R h = bound_by W _ _ (whether_by W _ _ _ (λ _. whether_by W _ _ _ (λ _. h) (λ _. tt)) (λ _. h))
      where
        W : Part → Type 0
        W x = Wp ts x R E q

  pub path_node_wp : (k : ℕ) (D : List Event) (p : ℕ) → kind_at ts p ≡ IDENT → Wp ts (path_node ts k) (Path ts (λ n. node k (path_shape n)) D p) D p
  unfolding path_node plain_path code root
  path_node_wp k D p e = λ o w.
      after ts (then (path ts) (λ _. no_macro ts)) _ (λ _ E q. (n : ℕ) × (E ≡ (D ++ (event.start live 0 false ∷ [])) ++ code (path_shape n) 0) × Covers ts p (tree.path n) q) (Path ts (λ n. node k (path_shape n)) D p) _ p
      (after ts (path ts) _ (Path ts path_shape (D ++ (event.start live 0 false ∷ [])) p) _ _ p (path_wp (D ++ (event.start live 0 false ∷ [])) p e) (λ m E q h. macro_wp D p E q _ (h.0, h.1.0, h.1.2)))
      (λ _ E q h. with_number o w E q h.0 h.1 h.2)
    where
      with_number : (o : Marker) → o.0 ≡ length D → (E : List Event) (q n : ℕ) → E ≡ (D ++ (event.start live 0 false ∷ [])) ++ code (path_shape n) 0 → Covers ts p (tree.path n) q → Wp ts (complete o k give) (Path ts (λ n. node k (path_shape n)) D p) E q
      with_number o w E q n i c = (D, code (path_shape n) 0, false, i ∙ append_assoc D _ _, w, λ m v. (n, (refl, omega (arith, v), c)))

  -- "Cast types: such a path under PATH_TYPE, else error 4"
  pub cast_type_wp : (D : List Event) (p : ℕ) → Wp ts (cast_type ts) (λ _ E q. (n : ℕ) × (E ≡ D ++ code (node PATH_TYPE (path_shape n)) 0) × Covers ts p (tree.path n) q) D p
  unfolding cast_type path_type after_type
  cast_type_wp D p =
      bound_by W _ _ (whether_by W _ _ _
      (λ e. after ts (path_node ts PATH_TYPE) _ (Path ts (λ n. node PATH_TYPE (path_shape n)) D p) R D p (path_node_wp PATH_TYPE D p (eqb-true _ IDENT e))
      (λ m E q h. same m E q h))
      (λ _. whether_by W _ _ _ (λ _. tt) (λ _. tt)))
    where
      R : Post (Unit {0})
      R _ E q = (n : ℕ) × (E ≡ D ++ code (node PATH_TYPE (path_shape n)) 0) × Covers ts p (tree.path n) q

      W : Part → Type 0
      W x = Wp ts x R D p

      At : List Event → ℕ → Part → Type 0
      At E q x = Wp ts x R E q

      same : (m : CompletedMarker) (E : List Event) (q : ℕ) → Path ts (λ n. node PATH_TYPE (path_shape n)) D p m E q → Wp ts (after_type ts) R E q
      same m E q h =
          let r : R tt E q = (h.0, h.1.0, h.1.2) in
          bound_by (At E q) _ _ (whether_by (At E q) _ _ _ (λ _. tt) (λ _. whether_by (At E q) _ _ _ (λ _. whether_by (At E q) _ _ _ (λ _. r) (λ _. tt)) (λ _. r)))
