-- A shape remembers how a stretch of events was made, so that its events are a function of it, `code`, and its steps too, `steps`: every machine call is then an equation of lists. Here: shapes, their events, where their root stands, and the shape that the rules make of a tree. Assumes nothing.
use Prim.Native.Nat.{ℕ, zero, suc, ◌+◌}
use mathlib.Core.Path.{◌≡◌, refl, ap}
use mathlib.Core.Bool.{Bool, true, false}
use mathlib.Core.List.{List, [], ◌∷◌, ◌++◌}
use lib.ListN.{length, length-append}
use Rattle.input.specs.SyntaxKind.{IDENT, AS_KW, MUT_KW, AWAIT_KW, L_PAREN, R_PAREN, L_BRACK, R_BRACK, COMMA, DOT, AMP, QUESTION, COLON2, LITERAL, PATH_EXPR, PATH, PATH_SEGMENT, NAME_REF, PAREN_EXPR, REF_EXPR, PREFIX_EXPR, BIN_EXPR, RANGE_EXPR, CALL_EXPR, ARG_LIST, INDEX_EXPR, METHOD_CALL_EXPR, FIELD_EXPR, AWAIT_EXPR, TRY_EXPR, CAST_EXPR, PATH_TYPE}
use Rattle.input.specs.Input.{width_of}
use Rattle.event.specs.Event.{Event, start, finish, token, split, spent, named}
use Rattle.demand.specs.Steps as step
use Rattle.demand.specs.Steps.{Step}
use Rattle.tree.specs.Tree.{Tree, literal, name, paren, prefix, borrowed, borrowed_mut, binary, cast, bare, up_to, from, between, call, index, try, field, method, await, two_fields, lone, Stem, dotted, pointed, Args, nothing, last, more}

-- how a node with a first part ends: by a finish; not at all (the first start of a float that is two names); by a split that ends in a dot; by one that does not
pub data Ending : Type 0 where
  shut unshut at_dot at_two : Ending

pub data Shape : Type 0 where
  nil : Shape
  -- a token of a kind and a width
  tok : ℕ → ℕ → Shape
  -- one after the other
  both : Shape → Shape → Shape
  -- a start, what stands in it, a finish
  node : ℕ → Shape → Shape
  -- the same with a first part that stands before the start, whose root has that start as forward parent
  led : Ending → ℕ → Shape → Shape → Shape
  -- a spent start before a rooted part, whose root it has as forward parent: the machine's extend
  ext : Shape → Shape

abbrev pub ends : Ending → List Event
ends shut = finish ∷ []
ends unshut = []
ends at_dot = split true ∷ finish ∷ []
ends at_two = split false ∷ finish ∷ []

abbrev pub end_steps : Ending → List Step
end_steps shut = step.leave ∷ []
end_steps unshut = []
end_steps at_dot = step.parted true ∷ []
end_steps at_two = step.parted false ∷ []

-- whether precede made the start
abbrev pub preceding : Ending → Bool
preceding shut = true
preceding unshut = true
preceding at_dot = true
preceding at_two = false

-- how many events, how many from the root on, and how many before it
unfoldable pub size : Shape → ℕ
size nil = 0
size (tok k w) = 1
size (both a b) = size a + size b
size (node k a) = suc (size a + 1)
size (led z k c a) = size c + suc (size a + length (ends z))
size (ext c) = suc (size c)

unfoldable pub reach : Shape → ℕ
reach nil = 0
reach (tok k w) = 0
reach (both a b) = 0
reach (node k a) = suc (size a + 1)
reach (led z k c a) = suc (size a + length (ends z))
reach (ext c) = reach c

unfoldable pub root : Shape → ℕ
root nil = 0
root (tok k w) = 0
root (both a b) = 0
root (node k a) = 0
root (led z k c a) = size c
root (ext c) = suc (root c)

-- the events; off is the offset of the root's forward parent, 0 for none
unfoldable pub code : Shape → ℕ → List Event
code nil off = []
code (tok k w) off = token k w ∷ []
code (both a b) off = code a 0 ++ code b 0
code (node k a) off = start (named k) off false ∷ (code a 0 ++ (finish ∷ []))
code (led z k c a) off = code c (reach c) ++ (start (named k) off (preceding z) ∷ (code a 0 ++ ends z))
code (ext c) off = start spent (suc (root c)) false ∷ code c off

-- the steps
unfoldable pub steps : Shape → List Step
steps nil = []
steps (tok k w) = step.taken k w ∷ []
steps (both a b) = steps a ++ steps b
steps (node k a) = step.enter k ∷ (steps a ++ (step.leave ∷ []))
steps (led z k c a) = step.enter k ∷ (steps c ++ (steps a ++ end_steps z))
steps (ext c) = steps c

-- a shape that has a root
abbrev pub Rooted : Shape → Type 0
Rooted nil = ⊥
Rooted (tok k w) = ⊥
Rooted (both a b) = ⊥
Rooted (node k a) = Unit {0}
Rooted (led z k c a) = Rooted c
Rooted (ext c) = Rooted c

-- every first part has one
abbrev pub Sound : Shape → Type 0
Sound nil = Unit {0}
Sound (tok k w) = Unit {0}
Sound (both a b) = Sound a × Sound b
Sound (node k a) = Sound a
Sound (led z k c a) = Rooted c × Sound c × Sound a
Sound (ext c) = Rooted c × Sound c

pub size_is : (t : Shape) (off : ℕ) → length (code t off) ≡ size t
unfolding code size
size_is nil off = refl
size_is (tok k w) off = refl
size_is (both a b) off = simp (length-append, size_is a 0, size_is b 0)
size_is (node k a) off = simp (length-append, size_is a 0)
size_is (led z k c a) off = simp (length-append, size_is c (reach c), size_is a 0)
size_is (ext c) off = ap suc (size_is c off)

-- a rooted shape: the node of its root and whether precede made it, what stands before the root and what behind it
unfoldable pub root_name : Shape → ℕ
root_name nil = 0
root_name (tok k w) = 0
root_name (both a b) = 0
root_name (node k a) = k
root_name (led z k c a) = k
root_name (ext c) = root_name c

unfoldable pub root_flag : Shape → Bool
root_flag nil = false
root_flag (tok k w) = false
root_flag (both a b) = false
root_flag (node k a) = false
root_flag (led z k c a) = preceding z
root_flag (ext c) = root_flag c

unfoldable pub front : Shape → List Event
front nil = []
front (tok k w) = []
front (both a b) = []
front (node k a) = []
front (led z k c a) = code c (reach c)
front (ext c) = start spent (suc (root c)) false ∷ front c

unfoldable pub back : Shape → List Event
back nil = []
back (tok k w) = []
back (both a b) = []
back (node k a) = code a 0 ++ (finish ∷ [])
back (led z k c a) = code a 0 ++ ends z
back (ext c) = back c

pub code_is : (t : Shape) (off : ℕ) → Rooted t → code t off ≡ front t ++ (start (named (root_name t)) off (root_flag t) ∷ back t)
unfolding code front back root_name root_flag
code_is nil off r = elim r [ ]
code_is (tok _ _) off r = elim r [ ]
code_is (both _ _) off r = elim r [ ]
code_is (node k a) off r = refl
code_is (led z k c a) off r = refl
code_is (ext c) off r = ap (λ (l : List Event). start spent (suc (root c)) false ∷ l) (code_is c off r)

pub front_is : (t : Shape) → Rooted t → length (front t) ≡ root t
unfolding front root
front_is nil r = elim r [ ]
front_is (tok _ _) r = elim r [ ]
front_is (both _ _) r = elim r [ ]
front_is (node k a) r = refl
front_is (led z k c a) r = size_is c (reach c)
front_is (ext c) r = ap suc (front_is c r)

pub back_is : (t : Shape) → Rooted t → reach t ≡ suc (length (back t))
unfolding reach back
back_is nil r = elim r [ ]
back_is (tok _ _) r = elim r [ ]
back_is (both _ _) r = elim r [ ]
back_is (node k a) r = simp (length-append, size_is a 0)
back_is (led z k c a) r = simp (length-append, size_is a 0)
back_is (ext c) r = back_is c r

-- The shape of a tree.
abbrev pub tk : ℕ → Shape
tk k = tok k (width_of k)

abbrev pub name_shape : ℕ → Shape
name_shape kind = node NAME_REF (tok kind 1)

abbrev pub segment_shape : Shape
segment_shape = node PATH_SEGMENT (name_shape IDENT)

unfoldable pub path_shape : ℕ → Shape
path_shape zero = node PATH segment_shape
path_shape (suc n) = led shut PATH (path_shape n) (both (tk COLON2) segment_shape)

abbrev pub list_shape : Shape → Shape
list_shape args = node ARG_LIST (both (both (tk L_PAREN) args) (tk R_PAREN))

-- a reading's own start stands before its left part, and is extended to it; operators come behind
abbrev pub outer : Tree → Shape → Shape
outer (binary op l r) sh = sh
outer (cast l n) sh = sh
outer (from op l) sh = sh
outer (between op l r) sh = sh
outer (literal kind) sh = ext sh
outer (name n) sh = ext sh
outer (paren t) sh = ext sh
outer (prefix op t) sh = ext sh
outer (borrowed t) sh = ext sh
outer (borrowed_mut t) sh = ext sh
outer (bare op) sh = ext sh
outer (up_to op r) sh = ext sh
outer (call t args) sh = ext sh
outer (index t i) sh = ext sh
outer (try t) sh = ext sh
outer (field s kind) sh = ext sh
outer (method s args) sh = ext sh
outer (await s) sh = ext sh
outer (two_fields s) sh = ext sh
outer (lone s) sh = ext sh

unfoldable mutual
  pub shape : Tree → Shape
  shape (literal kind) = node LITERAL (tok kind 1)
  shape (name n) = node PATH_EXPR (path_shape n)
  shape (paren t) = node PAREN_EXPR (both (both (tk L_PAREN) (outer t (shape t))) (tk R_PAREN))
  shape (prefix op t) = node PREFIX_EXPR (both (tk op) (outer t (shape t)))
  shape (borrowed t) = node REF_EXPR (both (tk AMP) (outer t (shape t)))
  shape (borrowed_mut t) = node REF_EXPR (both (both (tk AMP) (tk MUT_KW)) (outer t (shape t)))
  shape (binary op l r) = led shut BIN_EXPR (outer l (shape l)) (both (tk op) (outer r (shape r)))
  shape (cast l n) = led shut CAST_EXPR (outer l (shape l)) (both (tk AS_KW) (node PATH_TYPE (path_shape n)))
  shape (bare op) = node RANGE_EXPR (tk op)
  shape (up_to op r) = node RANGE_EXPR (both (tk op) (outer r (shape r)))
  shape (from op l) = led shut RANGE_EXPR (outer l (shape l)) (tk op)
  shape (between op l r) = led shut RANGE_EXPR (outer l (shape l)) (both (tk op) (outer r (shape r)))
  shape (call t args) = led shut CALL_EXPR (shape t) (list_shape (args_shape args))
  shape (index t i) = led shut INDEX_EXPR (shape t) (both (both (tk L_BRACK) (outer i (shape i))) (tk R_BRACK))
  shape (try t) = led shut TRY_EXPR (shape t) (tk QUESTION)
  shape (field s kind) = led shut FIELD_EXPR (first_shape s) (both (link_shape s) (name_shape kind))
  shape (method s args) = led shut METHOD_CALL_EXPR (first_shape s) (both (both (link_shape s) (name_shape IDENT)) (list_shape (args_shape args)))
  shape (await s) = led shut AWAIT_EXPR (first_shape s) (both (link_shape s) (tk AWAIT_KW))
  shape (two_fields s) = led at_two FIELD_EXPR (led unshut FIELD_EXPR (first_shape s) (link_shape s)) nil
  shape (lone s) = led at_dot FIELD_EXPR (first_shape s) (link_shape s)

  -- what stands before a name: a node, and its dot unless a float had it
  pub first_shape : Stem → Shape
  first_shape (dotted t) = shape t
  first_shape (pointed s) = led at_dot FIELD_EXPR (first_shape s) (link_shape s)

  pub link_shape : Stem → Shape
  link_shape (dotted t) = tk DOT
  link_shape (pointed s) = nil

  pub args_shape : Args → Shape
  args_shape nothing = nil
  args_shape (last t) = outer t (shape t)
  args_shape (more t args) = both (both (outer t (shape t)) (tk COMMA)) (args_shape args)

abbrev pub whole : Tree → Shape
whole t = outer t (shape t)

pub outer_rooted : (t : Tree) (sh : Shape) → Rooted sh → Rooted (outer t sh)
outer_rooted (binary op l r) sh h = h
outer_rooted (cast l n) sh h = h
outer_rooted (from op l) sh h = h
outer_rooted (between op l r) sh h = h
outer_rooted (literal kind) sh h = h
outer_rooted (name n) sh h = h
outer_rooted (paren t) sh h = h
outer_rooted (prefix op t) sh h = h
outer_rooted (borrowed t) sh h = h
outer_rooted (borrowed_mut t) sh h = h
outer_rooted (bare op) sh h = h
outer_rooted (up_to op r) sh h = h
outer_rooted (call t args) sh h = h
outer_rooted (index t i) sh h = h
outer_rooted (try t) sh h = h
outer_rooted (field s kind) sh h = h
outer_rooted (method s args) sh h = h
outer_rooted (await s) sh h = h
outer_rooted (two_fields s) sh h = h
outer_rooted (lone s) sh h = h

-- every tree's shape has a root
mutual
  unfolding shape path_shape

  pub rooted : (t : Tree) → Rooted (shape t)
  rooted (literal kind) = tt
  rooted (name n) = tt
  rooted (paren t) = tt
  rooted (prefix op t) = tt
  rooted (borrowed t) = tt
  rooted (borrowed_mut t) = tt
  rooted (binary op l r) = outer_rooted l (shape l) (rooted l)
  rooted (cast l n) = outer_rooted l (shape l) (rooted l)
  rooted (bare op) = tt
  rooted (up_to op r) = tt
  rooted (from op l) = outer_rooted l (shape l) (rooted l)
  rooted (between op l r) = outer_rooted l (shape l) (rooted l)
  rooted (call t args) = rooted t
  rooted (index t i) = rooted t
  rooted (try t) = rooted t
  rooted (field s kind) = first_rooted s
  rooted (method s args) = first_rooted s
  rooted (await s) = first_rooted s
  rooted (two_fields s) = first_rooted s
  rooted (lone s) = first_rooted s

  pub first_rooted : (s : Stem) → Rooted (first_shape s)
  first_rooted (dotted t) = rooted t
  first_rooted (pointed s) = first_rooted s
