-- Opening, filling and closing a node, as equations of lists of events: the few steps that every rule is made of. Assumes nothing.
use mathlib.Core.Path.{◌≡◌, refl, sym, subst, ap, ◌∙◌}
use mathlib.Core.List.{List, [], ◌∷◌, ◌++◌, append_assoc}
use mathlib.Core.Bool.{Bool, true, false}
use Prim.Native.Nat.{ℕ, suc, ◌+◌}
use native.Mathlib.Omega.{arith}
use lib.ListN.{length, length-append}
use lib.Dec.{eqb}
use borrow.Author.Tests.{ltb-true}
use Rattle.input.specs.SyntaxKind.{FLOAT_NUMBER, UNFIT}
use Rattle.input.specs.Input.{Tokens, kind_at, joint_at, stands, present, width_of, is_raw}
use Rattle.event.specs.Event as event
use Rattle.event.specs.Event.{Event, token, live, named}
use Rattle.parser.specs.Prog.{Prog, give, refuse, complete, precede, eat, then}
use Rattle.parser.specs.declared.Marker.{Marker}
use Rattle.parser.specs.declared.CompletedMarker.{CompletedMarker}
use Rattle.atoms.specs.Atom.{bump, begin, lead, expect, closing, leaf}
use Rattle.input.proofs.Laws.{raw_bounds}
use Rattle.demand.proofs.Tokens.{raw_present}
use Rattle.tree.specs.Tree.{Leaf, tok, float, Covers}
use Rattle.tree.proofs.Shape as shape
use Rattle.tree.proofs.Shape.{Shape, both, node, led, shut, code, root, reach, Rooted, size_is, root_name, root_flag, front, back, code_is, front_is, back_is, tk}
use Rattle.tree.proofs.Wp.{Post, Wp, after}

-- the leaves from p to q, one part after the other
pub covers_append : (ts : Tokens) (p q r : ℕ) (l m : List Leaf) → Covers ts p l q → Covers ts q m r → Covers ts p (l ++ m) r
unfolding Covers
covers_append ts p q r [] m g h = subst (λ (i : ℕ). Covers ts i m r) (sym g) h
covers_append ts p q r (tok k ∷ l) m g h = (g.0, covers_append ts (p + width_of k) q r l m g.1 h)
covers_append ts p q r (float d ∷ l) m g h = (g.0, g.1, covers_append ts (p + 1) q r l m g.2 h)

pub covers_none : (ts : Tokens) (p : ℕ) → Covers ts p [] p
unfolding Covers
covers_none ts p = refl

pub covers_tok : (ts : Tokens) (p k : ℕ) → present ts p k ≡ true → Covers ts p (tok k ∷ []) (p + width_of k)
unfolding Covers
covers_tok ts p k h = (h, refl)

pub covers_end : (ts : Tokens) (p k q : ℕ) → Covers ts p (tok k ∷ []) q → q ≡ p + width_of k
unfolding Covers
covers_end ts p k q h = sym h.1

pub covers_present : (ts : Tokens) (p k q : ℕ) → Covers ts p (tok k ∷ []) q → present ts p k ≡ true
unfolding Covers
covers_present ts p k q h = h.0

pub covers_float : (ts : Tokens) (p : ℕ) (d : Bool) → stands ts p FLOAT_NUMBER ≡ true → eqb (joint_at ts p) 0 ≡ d → Covers ts p (float d ∷ []) (p + 1)
unfolding Covers
covers_float ts p d h j = (h, j, refl)

-- an open node: behind D its start and the shape a, over the leaves l from p on
abbrev pub In : Bool → Shape → List Event → List Event → Type 0
In fl a D E = E ≡ D ++ (event.start live 0 fl ∷ code a 0)

abbrev pub Opens : Tokens → Bool → Shape → List Leaf → List Event → ℕ → Post Marker
Opens ts fl a l D p o E q = (o.0 ≡ length D) × In fl a D E × Covers ts p l q

-- a closed one: behind D the shape sh, whose root the marker is
abbrev pub Makes : Tokens → Shape → List Leaf → List Event → ℕ → Post CompletedMarker
Makes ts sh l D p m E q = (E ≡ D ++ code sh 0) × (m.0 ≡ length D + root sh) × Covers ts p l q

-- a part that makes no node of its own
abbrev pub Adds : Tokens → Shape → List Leaf → List Event → ℕ → Post (Unit {0})
Adds ts sh l D p _ E q = (E ≡ D ++ code sh 0) × Covers ts p l q

-- what never comes back: a rule that ends in an error
abbrev pub Never : {A : Type 0} → Post A
Never a E q = ⊥

pub in_more : (fl : Bool) (a b : Shape) (D E E' : List Event) → In fl a D E → E' ≡ E ++ code b 0 → In fl (both a b) D E'
unfolding code
in_more fl a b D E E' i p = p ∙ ap (λ (l : List Event). l ++ code b 0) i ∙ append_assoc D (event.start live 0 fl ∷ code a 0) (code b 0)

pub in_tok : (fl : Bool) (a : Shape) (k w : ℕ) (D E : List Event) → In fl a D E → In fl (both a (shape.tok k w)) D (E ++ (token k w ∷ []))
unfolding code
in_tok fl a k w D E i = in_more fl a (shape.tok k w) D E _ i refl

module _ (ts : Tokens) where
  -- a start and the kind at hand
  pub begin_wp : (k : ℕ) (D : List Event) (p : ℕ) → Wp ts (begin k) (Opens ts false (tk k) (tok k ∷ []) D p) D p
  unfolding begin bump then code
  begin_wp k D p = λ o i. (λ h. (i, append_assoc D _ _, covers_tok ts p k h), λ _. tt)

  -- a start before a closed node
  pub precede_wp : {A : Type 0} (m : CompletedMarker) (f : Marker → Prog A) (R : Post A) (c : Shape) (D E : List Event) (q : ℕ) → Rooted c → E ≡ D ++ code c 0 → m.0 ≡ length D + root c
      → ((o : Marker) → o.0 ≡ length (D ++ code c (reach c)) → Wp ts (f o) R ((D ++ code c (reach c)) ++ (event.start live 0 true ∷ [])) q) → Wp ts (precede m f) R E q
  precede_wp m f R c D E q r e w k =
      let led_is : (D ++ front c) ++ (event.start (named (root_name c)) (suc (length (back c))) (root_flag c) ∷ back c) ≡ D ++ code c (reach c) =
      append_assoc D (front c) _ ∙ ap (λ (i : ℕ). D ++ (front c ++ (event.start (named (root_name c)) i (root_flag c) ∷ back c))) (sym (back_is c r)) ∙ ap (λ (l : List Event). D ++ l) (sym (code_is c (reach c) r)) in (
        D ++ front c,
        back c,
        root_name c,
        root_flag c,
        e ∙ ap (λ (l : List Event). D ++ l) (code_is c 0 r) ∙ sym (append_assoc D (front c) _),
        w ∙ ap (λ (i : ℕ). length D + i) (sym (front_is c r)) ∙ sym (length-append D (front c)),
        λ o v. subst (λ (l : List Event). Wp ts (f o) R (l ++ (event.start live 0 true ∷ [])) q) (sym led_is) (k o (v ∙ ap length led_is)),
      )

  pub lead_wp : (m : CompletedMarker) (k : ℕ) (c : Shape) (D E : List Event) (q : ℕ) → Rooted c → E ≡ D ++ code c 0 → m.0 ≡ length D + root c
      → Wp ts (lead m k) (Opens ts true (tk k) (tok k ∷ []) (D ++ code c (reach c)) q) E q
  unfolding lead bump then code
  lead_wp m k c D E q r e w = precede_wp m (λ o. eat k (give o) (refuse UNFIT 0)) (Opens ts true (tk k) (tok k ∷ []) (D ++ code c (reach c)) q) c D E q r e w (λ o v. (λ h. (v, append_assoc (D ++ code c (reach c)) _ _, covers_tok ts q k h), λ _. tt))

  -- a node's end, and what follows
  pub node_then : {A : Type 0} (o : Marker) (k : ℕ) (a : Shape) (l : List Leaf) (f : CompletedMarker → Prog A) (R : Post A) (D E : List Event) (p q : ℕ) → o.0 ≡ length D → In false a D E → Covers ts p l q
      → ((m : CompletedMarker) (E' : List Event) → Makes ts (node k a) l D p m E' q → Wp ts (f m) R E' q) → Wp ts (complete o k f) R E q
  unfolding code root
  node_then o k a l f R D E p q w i c h = (D, code a 0, false, i, w, λ m v. h m _ (refl, omega (arith, v), c))

  pub node_wp : (o : Marker) (k : ℕ) (a : Shape) (l : List Leaf) (D E : List Event) (p q : ℕ) → o.0 ≡ length D → In false a D E → Covers ts p l q → Wp ts (complete o k give) (Makes ts (node k a) l D p) E q
  node_wp o k a l D E p q w i c = node_then o k a l give (Makes ts (node k a) l D p) D E p q w i c (λ m E' h. h)

  -- the same behind a first part c
  pub led_then : {A : Type 0} (o : Marker) (k : ℕ) (c a : Shape) (l : List Leaf) (f : CompletedMarker → Prog A) (R : Post A) (D E : List Event) (p q : ℕ) → o.0 ≡ length (D ++ code c (reach c)) → In true a (D ++ code c (reach c)) E → Covers ts p l q
      → ((m : CompletedMarker) (E' : List Event) → Makes ts (led shut k c a) l D p m E' q → Wp ts (f m) R E' q) → Wp ts (complete o k f) R E q
  unfolding code root
  led_then o k c a l f R D E p q w i g h =
      (D ++ code c (reach c), code a 0, true, i, w, λ m v. h m _ (append_assoc D (code c (reach c)) _, v ∙ length-append D (code c (reach c)) ∙ ap (λ (n : ℕ). length D + n) (size_is c (reach c)), g))

  pub led_wp : (o : Marker) (k : ℕ) (c a : Shape) (l : List Leaf) (D E : List Event) (p q : ℕ) → o.0 ≡ length (D ++ code c (reach c)) → In true a (D ++ code c (reach c)) E → Covers ts p l q → Wp ts (complete o k give) (Makes ts (led shut k c a) l D p) E q
  led_wp o k c a l D E p q w i g = led_then o k c a l give (Makes ts (led shut k c a) l D p) D E p q w i g (λ m E' h. h)

  -- one token as a node
  pub leaf_wp : (n k : ℕ) (D : List Event) (q : ℕ) → kind_at ts q ≡ k → is_raw k ≡ true → Wp ts (leaf n) (Makes ts (node n (shape.tok k 1)) (tok k ∷ []) D q) D q
  unfolding leaf code
  leaf_wp n k D q e r = λ o w. (
    omega (arith, (raw_bounds k r).1),
    λ h. let z = raw_present ts q (ltb-true _ _ h) (ap is_raw e ∙ r) in
        subst (λ (j : ℕ). Wp ts (complete o n give) (Makes ts (node n (shape.tok k 1)) (tok k ∷ []) D q) ((D ++ (event.start live 0 false ∷ [])) ++ (token j 1 ∷ [])) (q + 1)) (sym e)
        (node_wp o n (shape.tok k 1) (tok k ∷ []) D _ q (q + 1) w (append_assoc D _ _)
        (subst (λ (i : ℕ). Covers ts q (tok k ∷ []) (q + i)) (sym (z.1 ∙ ap width_of e)) (covers_tok ts q k (ap (present ts q) (sym e) ∙ z.0)))),
    λ _. tt,
  )

  -- a closing token, which is there or an error is
  pub expect_wp : (k c : ℕ) (D : List Event) (q : ℕ) → Wp ts (expect k c) (Adds ts (tk k) (tok k ∷ []) D q) D q
  unfolding expect code
  expect_wp k c D q = (λ h. (refl, covers_tok ts q k h), λ _. tt)

  -- behind a first part c in D, or none: the node's end after its closing token
  pub closing_node : (k c n : ℕ) (o : Marker) (a : Shape) (l : List Leaf) (D E : List Event) (p q : ℕ) → o.0 ≡ length D → In false a D E → Covers ts p l q → Wp ts (closing k c o n) (Makes ts (node n (both a (tk k))) (l ++ (tok k ∷ [])) D p) E q
  unfolding closing
  closing_node k c n o a l D E p q w i g =
      after ts (expect k c) _ (Adds ts (tk k) (tok k ∷ []) E q) _ E q (expect_wp k c E q)
      (λ _ E' q' h. node_wp o n (both a (tk k)) (l ++ (tok k ∷ [])) D E' p q' w (in_more false a (tk k) D E E' i h.0) (covers_append ts p q q' l _ g h.1))

  pub closing_led : (k e n : ℕ) (o : Marker) (c a : Shape) (l : List Leaf) (D E : List Event) (p q : ℕ) → o.0 ≡ length (D ++ code c (reach c)) → In true a (D ++ code c (reach c)) E → Covers ts p l q → Wp ts (closing k e o n) (Makes ts (led shut n c (both a (tk k))) (l ++ (tok k ∷ [])) D p) E q
  unfolding closing
  closing_led k e n o c a l D E p q w i g =
      after ts (expect k e) _ (Adds ts (tk k) (tok k ∷ []) E q) _ E q (expect_wp k e E q)
      (λ _ E' q' h. led_wp o n c (both a (tk k)) (l ++ (tok k ∷ [])) D E' p q' w (in_more true a (tk k) (D ++ code c (reach c)) E E' i h.0) (covers_append ts p q q' l _ g h.1))
