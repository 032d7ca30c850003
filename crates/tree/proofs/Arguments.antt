-- An argument list is the shape of its arguments. The loop's invariant: whatever arguments follow, they and those so far make arguments. Assumes nothing.
use mathlib.Core.Path.{◌≡◌, refl, sym, ap, ◌∙◌}
use mathlib.Core.List.{List, [], ◌∷◌, ◌++◌, append_assoc, append-nil}
use mathlib.Core.Bool.{true, false}
use Prim.Native.Nat.{ℕ, suc, ◌+◌}
use native.Mathlib.Omega.{arith}
use lib.ListN.{length}
use Rattle.base.specs.Base.{Next, again, done}
use Rattle.base.proofs.Cases.{whether_by, bound_by}
use Rattle.input.specs.SyntaxKind.{L_PAREN, R_PAREN, COMMA, ARG_LIST, EXPECTED_R_PAREN}
use Rattle.input.specs.Input.{Tokens, present, width_of}
use Rattle.event.specs.Event.{Event, token}
use Rattle.parser.specs.Prog.{Prog}
use Rattle.parser.specs.declared.Marker.{Marker}
use Rattle.parser.specs.declared.CompletedMarker.{CompletedMarker}
use Rattle.atoms.specs.Atom.{begin, closing, err_and_bump}
use Rattle.grammar.specs.Expressions.{Rule, lone_comma, no_comma, after_argument, argument, arguments, arg_list}
use Rattle.tree.specs.Tree.{Tree, tok, Args, nothing, last, more, leaves, arg_leaves, Covers}
use Rattle.tree.specs.Grouped.{Grouped, GroupedArgs, NoRanges}
use Rattle.tree.proofs.Shape.{both, code, tk, list_shape, args_shape, whole}
use Rattle.tree.proofs.Wp.{Post, Wp, after, weaken, round}
use Rattle.tree.proofs.Nodes.{Opens, Makes, in_more, covers_append, covers_none, covers_tok, begin_wp, closing_node}
use Rattle.tree.proofs.Paths.{err_wp}
use Rattle.tree.proofs.Reading.{Ends, Expr, Reads, then_some}

-- the arguments so far, from the events A and the position p on
record Sofar (ts : Tokens) (A : List Event) (p : ℕ) (E : List Event) (q : ℕ) : Type 0 where
  put : Args → Args
  adds : (a : Args) → E ++ code (args_shape a) 0 ≡ A ++ code (args_shape (put a)) 0
  covers : (a : Args) (r : ℕ) → Covers ts q (arg_leaves a) r → Covers ts p (arg_leaves (put a)) r
  groups : NoRanges ts → (a : Args) → GroupedArgs a → GroupedArgs (put a)

-- all of them
abbrev Listed : Tokens → List Event → ℕ → List Event → ℕ → Type 0
Listed ts A p E q = (a : Args) × (E ≡ A ++ code (args_shape a) 0) × Covers ts p (arg_leaves a) q × (NoRanges ts → GroupedArgs a)

abbrev pub List_of : Tokens → List Event → ℕ → Post CompletedMarker
List_of ts D p m E q = (a : Args) × Makes ts (list_shape (args_shape a)) (tok L_PAREN ∷ (arg_leaves a ++ (tok R_PAREN ∷ []))) D p m E q × (NoRanges ts → GroupedArgs a)

module _ (ts : Tokens) (A : List Event) (p : ℕ) where
  sofar_none : Sofar ts A p A p
  sofar_none = record { put = λ a. a; adds = λ a. refl; covers = λ a r h. h; groups = λ _ a h. h }

  listed_end : (E : List Event) (q : ℕ) → Sofar ts A p E q → Listed ts A p E q
  unfolding args_shape code arg_leaves GroupedArgs
  listed_end E q s = (s.put nothing, sym (append-nil E) ∙ s.adds nothing, s.covers nothing q (covers_none ts q), λ n. s.groups n nothing tt)

  module _ (E : List Event) (q : ℕ) (s : Sofar ts A p E q) (t : Tree) (E' : List Event) (q' : ℕ) (e : E' ≡ E ++ code (whole t) 0) (c : Covers ts q (leaves t) q') (g : NoRanges ts → Grouped t × Ends ts 1 q' t) where
    listed_last : Listed ts A p E' q'
    unfolding args_shape arg_leaves GroupedArgs
    listed_last = (s.put (last t), e ∙ s.adds (last t), s.covers (last t) q' c, λ n. s.groups n (last t) (g n).0)

    sofar_more : present ts q' COMMA ≡ true → Sofar ts A p (E' ++ (token COMMA (width_of COMMA) ∷ [])) (q' + width_of COMMA)
    unfolding args_shape code arg_leaves GroupedArgs
    sofar_more h =
        record {
          put = λ a. s.put (more t a);
          adds = λ a. ap (λ (l : List Event). (l ++ (token COMMA (width_of COMMA) ∷ [])) ++ code (args_shape a) 0) e ∙ ap (λ (l : List Event). l ++ code (args_shape a) 0) (append_assoc E _ _) ∙ append_assoc E _ _ ∙ s.adds (more t a);
          covers = λ a r k. s.covers (more t a) r (covers_append ts q q' r (leaves t) (tok COMMA ∷ arg_leaves a) c (covers_append ts q' (q' + width_of COMMA) r (tok COMMA ∷ []) (arg_leaves a) (covers_tok ts q' COMMA h) k));
          groups = λ n a k. s.groups n (more t a) ((g n).0, k);
        }

  module _ (read : ℕ → Rule) (reads : Reads ts read) where
    Turn : Post (Next (Unit {0}) (Unit {0}))
    Turn n E q = elim n [ again z ↦ Sofar ts A p E q | done a ↦ Listed ts A p E q ]

    argument_wp : (E : List Event) (q : ℕ) → Sofar ts A p E q → Wp ts (argument ts read) Turn E q
    unfolding argument lone_comma after_argument no_comma Turn
    argument_wp E q s =
        bound_by W _ _
        (whether_by W _ _ _ (λ _. listed_end E q s)
        (λ _. whether_by W _ _ _ (λ _. after ts err_and_bump _ _ Turn E q (err_wp ts E q) (λ _ E q h. absurd h))
        (λ _. then_some ts (read 1) _ _ (Expr ts (Ends ts 1) E q) Turn E q (reads 1 (omega arith) E q)
        (λ m E' q' h. (
          λ k. sofar_more E q s h.0 E' q' h.1.0 h.1.2 h.2 k,
          λ _. bound_by (At E' q') _ _ (whether_by (At E' q') _ _ _ (λ _. tt) (λ _. listed_last E q s h.0 E' q' h.1.0 h.1.2 h.2)),
        )))))
      where
        At : List Event → ℕ → Prog (Next (Unit {0}) (Unit {0})) → Type 0
        At E q x = Wp ts x Turn E q

        W : Prog (Next (Unit {0}) (Unit {0})) → Type 0
        W x = Wp ts x Turn E q

    arguments_wp : Wp ts (arguments ts read) (λ _. Listed ts A p) A p
    unfolding arguments Turn
    arguments_wp = round ts (λ _. argument ts read) (λ _. Sofar ts A p) (λ _. Listed ts A p) (λ _. argument_wp) (suc (length ts.kinds)) tt A p sofar_none

pub arg_list_wp : (ts : Tokens) (read : ℕ → Rule) → Reads ts read → (D : List Event) (p : ℕ) → Wp ts (arg_list ts read) (List_of ts D p) D p
unfolding arg_list
arg_list_wp ts read reads D p =
    after ts (begin L_PAREN) _ (Opens ts false (tk L_PAREN) (tok L_PAREN ∷ []) D p) (List_of ts D p) D p (begin_wp ts L_PAREN D p)
    (λ o A a i. after ts (arguments ts read) _ (λ _. Listed ts A a) (List_of ts D p) A a (arguments_wp ts A a read reads)
    (λ _ E q h. after_list o A a i E q h.0 h.1 h.2 h.3))
  where
    after_list : (o : Marker) (A : List Event) (a : ℕ) → Opens ts false (tk L_PAREN) (tok L_PAREN ∷ []) D p o A a → (E : List Event) (q : ℕ) (l : Args) → E ≡ A ++ code (args_shape l) 0 → Covers ts a (arg_leaves l) q → (NoRanges ts → GroupedArgs l) → Wp ts (closing R_PAREN EXPECTED_R_PAREN o ARG_LIST) (List_of ts D p) E q
    after_list o A a i E q l e c g =
        weaken ts (closing R_PAREN EXPECTED_R_PAREN o ARG_LIST) (Makes ts (list_shape (args_shape l)) (tok L_PAREN ∷ (arg_leaves l ++ (tok R_PAREN ∷ []))) D p) (List_of ts D p) E q
        (closing_node ts R_PAREN EXPECTED_R_PAREN ARG_LIST o (both (tk L_PAREN) (args_shape l)) (tok L_PAREN ∷ arg_leaves l) D E p q i.0 (in_more false (tk L_PAREN) (args_shape l) D A E i.1 e) (covers_append ts p a q (tok L_PAREN ∷ []) (arg_leaves l) i.2 c))
        (λ m E q h. (l, h, g))
