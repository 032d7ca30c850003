-- The steps of a tree's shape are `flat` of the tree, and every part of the shape that needs a root has one. Assumes nothing.
use mathlib.Core.Path.{◌≡◌, refl, sym, ap, ◌∙◌}
use mathlib.Core.List.{List, [], ◌∷◌, ◌++◌, map, append_assoc, append-nil, map-append}
use Prim.Native.Nat.{ℕ, zero, suc, ◌+◌, ◌*◌}
use Rattle.input.specs.SyntaxKind.{IDENT, AS_KW, MUT_KW, AWAIT_KW, L_PAREN, R_PAREN, L_BRACK, R_BRACK, COMMA, DOT, AMP, QUESTION, PATH_EXPR, PAREN_EXPR, REF_EXPR, PREFIX_EXPR, BIN_EXPR, RANGE_EXPR, CALL_EXPR, ARG_LIST, INDEX_EXPR, METHOD_CALL_EXPR, FIELD_EXPR, AWAIT_EXPR, TRY_EXPR, CAST_EXPR, PATH_TYPE, ENTER, TOKEN, LEAVE, FLOAT_SPLIT, ENDS_IN_DOT, WIDTH_STEP}
use Rattle.demand.specs.Steps.{code_of}
use Rattle.tree.specs.Tree.{Tree, literal, name, paren, prefix, borrowed, borrowed_mut, binary, cast, bare, up_to, from, between, call, index, try, field, method, await, two_fields, lone, Stem, dotted, pointed, Args, nothing, last, more, taken, node_over, name_ref, flat, stem_steps, arg_steps, path_steps}
use Rattle.tree.proofs.Shape.{Shape, nil, tok, both, node, led, ext, Ending, shut, unshut, at_dot, at_two, end_steps, steps, Rooted, Sound, path_shape, outer, shape, first_shape, link_shape, args_shape, whole, outer_rooted, rooted, first_rooted}
use Rattle.tree.proofs.Paths.{path_rooted}

-- the steps of a shape as numbers
abbrev end_numbers : Ending → List ℕ
end_numbers shut = LEAVE ∷ []
end_numbers unshut = []
end_numbers at_dot = (FLOAT_SPLIT + ENDS_IN_DOT) ∷ []
end_numbers at_two = FLOAT_SPLIT ∷ []

unfoldable numbers : Shape → List ℕ
numbers nil = []
numbers (tok k w) = (TOKEN + WIDTH_STEP * w + k) ∷ []
numbers (both a b) = numbers a ++ numbers b
numbers (node k a) = (ENTER + k) ∷ (numbers a ++ (LEAVE ∷ []))
numbers (led z k c a) = (ENTER + k) ∷ (numbers c ++ (numbers a ++ end_numbers z))
numbers (ext c) = numbers c

ends_are : (z : Ending) → map code_of (end_steps z) ≡ end_numbers z
ends_are shut = refl
ends_are unshut = refl
ends_are at_dot = refl
ends_are at_two = refl

numbers_are : (sh : Shape) → map code_of (steps sh) ≡ numbers sh
unfolding steps numbers
numbers_are nil = refl
numbers_are (tok k w) = refl
numbers_are (both a b) = simp (map-append, numbers_are a, numbers_are b)
numbers_are (node k a) = simp (map-append, numbers_are a)
numbers_are (led z k c a) = simp (map-append, numbers_are c, numbers_are a, ends_are z)
numbers_are (ext c) = numbers_are c

outer_numbers : (t : Tree) (sh : Shape) → numbers (outer t sh) ≡ numbers sh
unfolding numbers
outer_numbers (binary op l r) sh = refl
outer_numbers (cast l n) sh = refl
outer_numbers (from op l) sh = refl
outer_numbers (between op l r) sh = refl
outer_numbers (literal kind) sh = refl
outer_numbers (name n) sh = refl
outer_numbers (paren t) sh = refl
outer_numbers (prefix op t) sh = refl
outer_numbers (borrowed t) sh = refl
outer_numbers (borrowed_mut t) sh = refl
outer_numbers (bare op) sh = refl
outer_numbers (up_to op r) sh = refl
outer_numbers (call t args) sh = refl
outer_numbers (index t i) sh = refl
outer_numbers (try t) sh = refl
outer_numbers (field s kind) sh = refl
outer_numbers (method s args) sh = refl
outer_numbers (await s) sh = refl
outer_numbers (two_fields s) sh = refl
outer_numbers (lone s) sh = refl

path_numbers : (n : ℕ) → numbers (path_shape n) ≡ path_steps n
unfolding path_shape numbers path_steps
path_numbers zero = refl
path_numbers (suc n) = simp (path_numbers n, append_assoc)

-- the forms of a node, as numbers: over one part; over a first part and what follows; over a stem and what follows
node_form : (k : ℕ) {b b' : List ℕ} → b ≡ b' → (ENTER + k) ∷ (b ++ (LEAVE ∷ [])) ≡ node_over k b'
node_form k p = ap (λ (z : List ℕ). node_over k z) p

led_form : (k : ℕ) (a b : List ℕ) {a' b' : List ℕ} → a ≡ a' → b ≡ b' → (ENTER + k) ∷ (a ++ (b ++ (LEAVE ∷ []))) ≡ node_over k (a' ++ b')
led_form k a b {a'} {b'} p q = ap (λ (z : List ℕ). (ENTER + k) ∷ z) (sym (append_assoc a b (LEAVE ∷ []))) ∙ ap (λ (z : List ℕ). node_over k (z ++ b)) p ∙ ap (λ (z : List ℕ). node_over k (a' ++ z)) q

stem_form : (k : ℕ) (a b r : List ℕ) {s r' : List ℕ} → a ++ b ≡ s → r ≡ r' → (ENTER + k) ∷ (a ++ ((b ++ r) ++ (LEAVE ∷ []))) ≡ node_over k (s ++ r')
stem_form k a b r {s} {r'} p q =
    ap (λ (z : List ℕ). (ENTER + k) ∷ z) (sym (append_assoc a (b ++ r) (LEAVE ∷ [])))
    ∙ ap (λ (z : List ℕ). node_over k z) (sym (append_assoc a b r))
    ∙ ap (λ (z : List ℕ). node_over k (z ++ r)) p ∙ ap (λ (z : List ℕ). node_over k (s ++ z)) q

pointed_form : (a b e : List ℕ) {s : List ℕ} → a ++ b ≡ s → (ENTER + FIELD_EXPR) ∷ (a ++ (b ++ e)) ≡ (ENTER + FIELD_EXPR) ∷ (s ++ e)
pointed_form a b e p = ap (λ (z : List ℕ). (ENTER + FIELD_EXPR) ∷ z) (sym (append_assoc a b e) ∙ ap (λ (z : List ℕ). z ++ e) p)

list_form : {l l' : List ℕ} → l ≡ l' → node_over ARG_LIST (taken L_PAREN ∷ (l ++ (taken R_PAREN ∷ []))) ≡ node_over ARG_LIST (taken L_PAREN ∷ (l' ++ (taken R_PAREN ∷ [])))
list_form p = ap (λ (z : List ℕ). node_over ARG_LIST (taken L_PAREN ∷ (z ++ (taken R_PAREN ∷ [])))) p

mutual
  unfolding shape numbers flat

  tree_numbers : (t : Tree) → numbers (shape t) ≡ flat t
  tree_numbers (literal kind) = refl
  tree_numbers (name n) = node_form PATH_EXPR (path_numbers n)
  tree_numbers (paren t) = node_form PAREN_EXPR (ap (λ (z : List ℕ). taken L_PAREN ∷ (z ++ (taken R_PAREN ∷ []))) (outer_numbers t (shape t) ∙ tree_numbers t))
  tree_numbers (prefix op t) = node_form PREFIX_EXPR (ap (λ (z : List ℕ). taken op ∷ z) (outer_numbers t (shape t) ∙ tree_numbers t))
  tree_numbers (borrowed t) = node_form REF_EXPR (ap (λ (z : List ℕ). taken AMP ∷ z) (outer_numbers t (shape t) ∙ tree_numbers t))
  tree_numbers (borrowed_mut t) = node_form REF_EXPR (ap (λ (z : List ℕ). taken AMP ∷ taken MUT_KW ∷ z) (outer_numbers t (shape t) ∙ tree_numbers t))
  tree_numbers (binary op l r) = led_form BIN_EXPR (numbers (whole l)) _ (outer_numbers l (shape l) ∙ tree_numbers l) (ap (λ (z : List ℕ). taken op ∷ z) (outer_numbers r (shape r) ∙ tree_numbers r))
  tree_numbers (cast l n) = led_form CAST_EXPR (numbers (whole l)) _ (outer_numbers l (shape l) ∙ tree_numbers l) (ap (λ (z : List ℕ). taken AS_KW ∷ node_over PATH_TYPE z) (path_numbers n))
  tree_numbers (bare op) = refl
  tree_numbers (up_to op r) = node_form RANGE_EXPR (ap (λ (z : List ℕ). taken op ∷ z) (outer_numbers r (shape r) ∙ tree_numbers r))
  tree_numbers (from op l) = led_form RANGE_EXPR (numbers (whole l)) (taken op ∷ []) (outer_numbers l (shape l) ∙ tree_numbers l) refl
  tree_numbers (between op l r) = led_form RANGE_EXPR (numbers (whole l)) _ (outer_numbers l (shape l) ∙ tree_numbers l) (ap (λ (z : List ℕ). taken op ∷ z) (outer_numbers r (shape r) ∙ tree_numbers r))
  tree_numbers (call t args) = led_form CALL_EXPR (numbers (shape t)) _ (tree_numbers t) (list_form (args_numbers args))
  tree_numbers (index t i) = led_form INDEX_EXPR (numbers (shape t)) _ (tree_numbers t) (ap (λ (z : List ℕ). taken L_BRACK ∷ (z ++ (taken R_BRACK ∷ []))) (outer_numbers i (shape i) ∙ tree_numbers i))
  tree_numbers (try t) = led_form TRY_EXPR (numbers (shape t)) (taken QUESTION ∷ []) (tree_numbers t) refl
  tree_numbers (field s kind) = stem_form FIELD_EXPR (numbers (first_shape s)) (numbers (link_shape s)) (name_ref kind) (stem_numbers s) refl
  tree_numbers (method s args) =
      ap (λ (z : List ℕ). (ENTER + METHOD_CALL_EXPR) ∷ (numbers (first_shape s) ++ (z ++ (LEAVE ∷ [])))) (append_assoc (numbers (link_shape s)) (name_ref IDENT) _)
      ∙ stem_form METHOD_CALL_EXPR (numbers (first_shape s)) (numbers (link_shape s)) _ (stem_numbers s) (ap (λ (z : List ℕ). name_ref IDENT ++ z) (list_form (args_numbers args)))
  tree_numbers (await s) = stem_form AWAIT_EXPR (numbers (first_shape s)) (numbers (link_shape s)) (taken AWAIT_KW ∷ []) (stem_numbers s) refl
  tree_numbers (two_fields s) =
      ap (λ (z : List ℕ). (ENTER + FIELD_EXPR) ∷ z)
      (ap (λ (z : List ℕ). ((ENTER + FIELD_EXPR) ∷ (numbers (first_shape s) ++ z)) ++ (FLOAT_SPLIT ∷ [])) (append-nil (numbers (link_shape s))) ∙ ap (λ (z : List ℕ). ((ENTER + FIELD_EXPR) ∷ z) ++ (FLOAT_SPLIT ∷ [])) (stem_numbers s))
  tree_numbers (lone s) = pointed_form (numbers (first_shape s)) (numbers (link_shape s)) _ (stem_numbers s)

  stem_numbers : (s : Stem) → numbers (first_shape s) ++ numbers (link_shape s) ≡ stem_steps s
  stem_numbers (dotted t) = ap (λ (z : List ℕ). z ++ (taken DOT ∷ [])) (tree_numbers t)
  stem_numbers (pointed s) = append-nil (numbers (first_shape (pointed s))) ∙ pointed_form (numbers (first_shape s)) (numbers (link_shape s)) _ (stem_numbers s)

  args_numbers : (a : Args) → numbers (args_shape a) ≡ arg_steps a
  args_numbers nothing = refl
  args_numbers (last t) = outer_numbers t (shape t) ∙ tree_numbers t
  args_numbers (more t a) =
      ap (λ (z : List ℕ). (z ++ (taken COMMA ∷ [])) ++ numbers (args_shape a)) (outer_numbers t (shape t) ∙ tree_numbers t)
      ∙ ap (λ (z : List ℕ). (flat t ++ (taken COMMA ∷ [])) ++ z) (args_numbers a) ∙ append_assoc (flat t) (taken COMMA ∷ []) (arg_steps a)

pub flat_of : (t : Tree) → map code_of (steps (whole t)) ≡ flat t
flat_of t = numbers_are (whole t) ∙ outer_numbers t (shape t) ∙ tree_numbers t

-- where a root is needed there is one
path_sound : (n : ℕ) → Sound (path_shape n)
unfolding path_shape
path_sound zero = tt
path_sound (suc n) = (path_rooted n, path_sound n, (tt, tt))

outer_sound : (t : Tree) (sh : Shape) → Rooted sh → Sound sh → Sound (outer t sh)
outer_sound (binary op l r) sh d s = s
outer_sound (cast l n) sh d s = s
outer_sound (from op l) sh d s = s
outer_sound (between op l r) sh d s = s
outer_sound (literal kind) sh d s = (d, s)
outer_sound (name n) sh d s = (d, s)
outer_sound (paren t) sh d s = (d, s)
outer_sound (prefix op t) sh d s = (d, s)
outer_sound (borrowed t) sh d s = (d, s)
outer_sound (borrowed_mut t) sh d s = (d, s)
outer_sound (bare op) sh d s = (d, s)
outer_sound (up_to op r) sh d s = (d, s)
outer_sound (call t args) sh d s = (d, s)
outer_sound (index t i) sh d s = (d, s)
outer_sound (try t) sh d s = (d, s)
outer_sound (field st kind) sh d s = (d, s)
outer_sound (method st args) sh d s = (d, s)
outer_sound (await st) sh d s = (d, s)
outer_sound (two_fields st) sh d s = (d, s)
outer_sound (lone st) sh d s = (d, s)

mutual
  unfolding shape

  tree_sound : (t : Tree) → Sound (shape t)
  tree_sound (literal kind) = tt
  tree_sound (name n) = path_sound n
  tree_sound (paren t) = ((tt, outer_sound t (shape t) (rooted t) (tree_sound t)), tt)
  tree_sound (prefix op t) = (tt, outer_sound t (shape t) (rooted t) (tree_sound t))
  tree_sound (borrowed t) = (tt, outer_sound t (shape t) (rooted t) (tree_sound t))
  tree_sound (borrowed_mut t) = ((tt, tt), outer_sound t (shape t) (rooted t) (tree_sound t))
  tree_sound (binary op l r) = (outer_rooted l (shape l) (rooted l), outer_sound l (shape l) (rooted l) (tree_sound l), (tt, outer_sound r (shape r) (rooted r) (tree_sound r)))
  tree_sound (cast l n) = (outer_rooted l (shape l) (rooted l), outer_sound l (shape l) (rooted l) (tree_sound l), (tt, path_sound n))
  tree_sound (bare op) = tt
  tree_sound (up_to op r) = (tt, outer_sound r (shape r) (rooted r) (tree_sound r))
  tree_sound (from op l) = (outer_rooted l (shape l) (rooted l), outer_sound l (shape l) (rooted l) (tree_sound l), tt)
  tree_sound (between op l r) = (outer_rooted l (shape l) (rooted l), outer_sound l (shape l) (rooted l) (tree_sound l), (tt, outer_sound r (shape r) (rooted r) (tree_sound r)))
  tree_sound (call t args) = (rooted t, tree_sound t, ((tt, args_sound args), tt))
  tree_sound (index t i) = (rooted t, tree_sound t, ((tt, outer_sound i (shape i) (rooted i) (tree_sound i)), tt))
  tree_sound (try t) = (rooted t, tree_sound t, tt)
  tree_sound (field s kind) = (first_rooted s, first_sound s, (link_sound s, tt))
  tree_sound (method s args) = (first_rooted s, first_sound s, ((link_sound s, tt), ((tt, args_sound args), tt)))
  tree_sound (await s) = (first_rooted s, first_sound s, (link_sound s, tt))
  tree_sound (two_fields s) = (first_rooted s, (first_rooted s, first_sound s, link_sound s), tt)
  tree_sound (lone s) = (first_rooted s, first_sound s, link_sound s)

  first_sound : (s : Stem) → Sound (first_shape s)
  first_sound (dotted t) = tree_sound t
  first_sound (pointed s) = (first_rooted s, first_sound s, link_sound s)

  link_sound : (s : Stem) → Sound (link_shape s)
  link_sound (dotted t) = tt
  link_sound (pointed s) = tt

  args_sound : (a : Args) → Sound (args_shape a)
  args_sound nothing = tt
  args_sound (last t) = outer_sound t (shape t) (rooted t) (tree_sound t)
  args_sound (more t a) = ((outer_sound t (shape t) (rooted t) (tree_sound t), tt), args_sound a)

pub whole_sound : (t : Tree) → Sound (whole t)
whole_sound t = outer_sound t (shape t) (rooted t) (tree_sound t)
