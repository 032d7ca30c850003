-- The steps say which tree: whatever tree over tokens has them, it is this one. Assumes nothing.
use Rattle.std.proofs.Common.{Ok, Err}
use mathlib.Core.Path.{◌≡◌, refl, sym, ap, ◌∙◌}
use mathlib.Core.List.{List, [], ◌∷◌, ◌++◌, append_assoc}
use mathlib.Core.Bool.{Bool, true, false}
use Prim.Native.Nat.{ℕ, zero, suc, ◌+◌, ◌≤◌, ◌<◌}
use native.Mathlib.Omega.{arith}
use lib.ListN.{length, get_or, drop}
use lib.Dec.{eqb, ltb}
use borrow.Author.Tests.{ltb-false, leb-true, eqb-true, eqb-false}
use Rattle.base.specs.Base.{whether, called}
use Rattle.base.proofs.Cases.{whether_by, bound_by}
use Rattle.input.specs.SyntaxKind.{IDENT, AS_KW, MUT_KW, AWAIT_KW, L_PAREN, R_PAREN, L_BRACK, R_BRACK, AMP, QUESTION, LITERAL, PATH_EXPR, PAREN_EXPR, REF_EXPR, PREFIX_EXPR, BIN_EXPR, RANGE_EXPR, CALL_EXPR, ARG_LIST, INDEX_EXPR, METHOD_CALL_EXPR, FIELD_EXPR, AWAIT_EXPR, TRY_EXPR, CAST_EXPR, PATH_TYPE, FLOAT_SPLIT, ENDS_IN_DOT, SHREQ}
use Rattle.input.specs.Input.{Tokens, kind_at, present, follow, parts_of, is_glued, width_of, is_raw, first_off, lengths_of, bytes_of, on_checked, tokens_of, Checked}
use Rattle.input.proofs.Laws.{both_true, stands_says, raw_bounds}
use Rattle.tree.specs.Tree.{Tree, literal, name, paren, prefix, borrowed, borrowed_mut, binary, cast, bare, up_to, from, between, call, index, try, field, method, await, two_fields, lone, Stem, dotted, pointed, Args, nothing, last, more, Leaf, tok, float, leaves, stem_leaves, arg_leaves, Covers, enter, raw, taken, leave, node_over, name_ref, path_steps, flat, stem_steps, arg_steps}
use Rattle.tree.proofs.Measures.{size, stem_size, some_size, Each, each_left, each_right}
use Rattle.tree.proofs.Undo.{Item, whole, two, as_tree, node_of, undo}
use Rattle.tree.proofs.OneTree.{Small, SmallStem, SmallArgs, item_of, is_tree, path_back, raw_back, Undoes, paren_node, prefix_node, mut_node, borrow_node, binary_node, cast_node, bare_node, up_node, from_node, between_node, call_node, index_node, try_node, method_node, await_node, field_node, lone_node, half_node, two_node}

-- a node's steps with what follows them
over : (k : ℕ) (a r : List ℕ) → node_over k a ++ r ≡ enter k ∷ (a ++ (leave ∷ r))
over k a r = ap (λ (l : List ℕ). enter k ∷ l) (append_assoc a (leave ∷ []) r)

over_two : (k : ℕ) (a b r : List ℕ) → node_over k (a ++ b) ++ r ≡ enter k ∷ (a ++ (b ++ (leave ∷ r)))
over_two k a b r = over k (a ++ b) r ∙ ap (λ (l : List ℕ). enter k ∷ l) (append_assoc a b (leave ∷ r))

module _ (n : ℕ) (u : Undoes n (undo n)) where
  name_node : (k : ℕ) (r : List ℕ) → node_of n (undo n) (enter PATH_EXPR) (path_steps k ++ (leave ∷ r)) ≡ (whole (name k), r)
  unfolding node_of whether called
  name_node k r = ap (λ (z : ℕ × List ℕ). (whole (name z.0), drop 1 z.1)) (path_back k (leave ∷ r))

  literal_node : (k : ℕ) (r : List ℕ) → node_of n (undo n) (enter LITERAL) (raw k ∷ leave ∷ r) ≡ (whole (literal k), r)
  unfolding node_of whether
  literal_node k r = ap (λ (j : ℕ). (whole (literal j), r)) (raw_back k)

  trees_back : (t : Tree) → size t ≤ suc n → Small t → (r : List ℕ) → undo (suc n) (flat t ++ r) ≡ (item_of t, r)
  unfolding undo flat size Small item_of
  trees_back (literal kind) h m r = literal_node kind r
  trees_back (name k) h m r = ap (undo (suc n)) (over PATH_EXPR (path_steps k) r) ∙ name_node k r
  trees_back (paren t) h m r = ap (undo (suc n)) (over PAREN_EXPR (taken L_PAREN ∷ (flat t ++ (taken R_PAREN ∷ []))) r ∙ ap (λ (l : List ℕ). enter PAREN_EXPR ∷ taken L_PAREN ∷ l) (append_assoc (flat t) (taken R_PAREN ∷ []) (leave ∷ r))) ∙ paren_node n (undo n) u r t (omega arith) m
  trees_back (prefix op t) h m r = ap (undo (suc n)) (over PREFIX_EXPR (taken op ∷ flat t) r) ∙ prefix_node n (undo n) u r op t m.0 (omega arith) m.1
  trees_back (borrowed t) h m r = ap (undo (suc n)) (over REF_EXPR (taken AMP ∷ flat t) r) ∙ borrow_node n (undo n) u r t (omega arith) m
  trees_back (borrowed_mut t) h m r = ap (undo (suc n)) (over REF_EXPR (taken AMP ∷ taken MUT_KW ∷ flat t) r) ∙ mut_node n (undo n) u r t (omega arith) m
  trees_back (binary op a b) h m r = ap (undo (suc n)) (over_two BIN_EXPR (flat a) (taken op ∷ flat b) r) ∙ binary_node n (undo n) u r op a b m.0 (omega arith) (omega arith) m.1 m.2
  trees_back (cast a k) h m r =
      ap (undo (suc n)) (over_two CAST_EXPR (flat a) (taken AS_KW ∷ node_over PATH_TYPE (path_steps k)) r ∙ ap (λ (l : List ℕ). enter CAST_EXPR ∷ (flat a ++ (taken AS_KW ∷ l))) (over PATH_TYPE (path_steps k) (leave ∷ r)))
      ∙ cast_node n (undo n) u r a k (omega arith) m
  trees_back (bare op) h m r = bare_node n (undo n) u r op m
  trees_back (up_to op b) h m r = ap (undo (suc n)) (over RANGE_EXPR (taken op ∷ flat b) r) ∙ up_node n (undo n) u r op b m.0 (omega arith) m.1
  trees_back (from op a) h m r = ap (undo (suc n)) (over_two RANGE_EXPR (flat a) (taken op ∷ []) r) ∙ from_node n (undo n) u r op a m.0 (omega arith) m.1
  trees_back (between op a b) h m r = ap (undo (suc n)) (over_two RANGE_EXPR (flat a) (taken op ∷ flat b) r) ∙ between_node n (undo n) u r op a b m.0 (omega arith) (omega arith) m.1 m.2
  trees_back (call t args) h m r = ap (undo (suc n)) (over_two CALL_EXPR (flat t) (node_over ARG_LIST (taken L_PAREN ∷ (arg_steps args ++ (taken R_PAREN ∷ [])))) r) ∙ call_node n (undo n) u r t args (omega arith) (omega arith) m.0 m.1
  trees_back (index t i) h m r =
      ap (undo (suc n)) (over_two INDEX_EXPR (flat t) (taken L_BRACK ∷ (flat i ++ (taken R_BRACK ∷ []))) r ∙ ap (λ (l : List ℕ). enter INDEX_EXPR ∷ (flat t ++ (taken L_BRACK ∷ l))) (append_assoc (flat i) (taken R_BRACK ∷ []) (leave ∷ r)))
      ∙ index_node n (undo n) u r t i (omega arith) (omega arith) m.0 m.1
  trees_back (try t) h m r = ap (undo (suc n)) (over_two TRY_EXPR (flat t) (taken QUESTION ∷ []) r) ∙ try_node n (undo n) u r t (omega arith) m
  trees_back (field s kind) h m r = ap (undo (suc n)) (over_two FIELD_EXPR (stem_steps s) (name_ref kind) r) ∙ field_node n (undo n) u r s kind (omega arith) m
  trees_back (method s args) h m r = ap (undo (suc n)) (over_two METHOD_CALL_EXPR (stem_steps s) (name_ref IDENT ++ node_over ARG_LIST (taken L_PAREN ∷ (arg_steps args ++ (taken R_PAREN ∷ [])))) r) ∙ method_node n (undo n) u r s args (omega arith) (omega arith) m.0 m.1
  trees_back (await s) h m r = ap (undo (suc n)) (over_two AWAIT_EXPR (stem_steps s) (taken AWAIT_KW ∷ []) r) ∙ await_node n (undo n) u r s (omega arith) m
  trees_back (two_fields s) h m r = ap (λ (l : List ℕ). undo (suc n) (enter FIELD_EXPR ∷ enter FIELD_EXPR ∷ l)) (append_assoc (stem_steps s) (FLOAT_SPLIT ∷ []) r) ∙ two_node n (undo n) u r s (omega arith) m
  trees_back (lone s) h m r = ap (λ (l : List ℕ). undo (suc n) (enter FIELD_EXPR ∷ l)) (append_assoc (stem_steps s) ((FLOAT_SPLIT + ENDS_IN_DOT) ∷ []) r) ∙ lone_node n (undo n) u r s (omega arith) m

  halves_back : (s : Stem) → stem_size s < suc n → SmallStem s → (r : List ℕ) → undo (suc n) (enter FIELD_EXPR ∷ (stem_steps s ++ (FLOAT_SPLIT ∷ r))) ≡ (two s, r)
  unfolding undo
  halves_back s h m r = half_node n (undo n) u r s (omega arith) m

undoes : (n : ℕ) → Undoes n (undo n)
undoes zero = record { trees = λ t h m r. absurd (omega (arith, some_size t)); halves = λ s h m r. absurd (omega arith) }
undoes (suc n) = record { trees = trees_back n (undoes n); halves = halves_back n (undoes n) }

-- trees whose operators are kinds
pub flat_once : (t t' : Tree) → Small t → Small t' → flat t ≡ flat t' → t ≡ t'
flat_once t t' m m' e =
    let n : ℕ = size t + size t' in
    let x : undo n (flat t ++ []) ≡ (item_of t, []) = (undoes n).trees t (omega arith) m [] in
    let y : undo n (flat t' ++ []) ≡ (item_of t', []) = (undoes n).trees t' (omega arith) m' [] in
    sym (is_tree t) ∙ ap (λ (z : Item × List ℕ). as_tree z.0) (sym x ∙ ap (λ (l : List ℕ). undo n (l ++ [])) e ∙ y) ∙ is_tree t'

-- a tree over tokens of a checked list: its leaves are kinds
abbrev Kind : ℕ → Type 0
Kind k = k < 256

abbrev Kinds : List Leaf → Type 0
Kinds = Each Kind

mutual
  unfolding leaves Small

  small_of : (t : Tree) → Kinds (leaves t) → Small t
  small_of (literal kind) f = tt
  small_of (name n) f = tt
  small_of (paren t) f = small_of t (each_left Kind (leaves t) _ f.1)
  small_of (prefix op t) f = (f.0, small_of t f.1)
  small_of (borrowed t) f = small_of t f.1
  small_of (borrowed_mut t) f = small_of t f.1.1
  small_of (binary op l r) f = ((each_right Kind (leaves l) _ f).0, small_of l (each_left Kind (leaves l) _ f), small_of r (each_right Kind (leaves l) _ f).1)
  small_of (cast l n) f = small_of l (each_left Kind (leaves l) _ f)
  small_of (bare op) f = f.0
  small_of (up_to op r) f = (f.0, small_of r f.1)
  small_of (from op l) f = ((each_right Kind (leaves l) _ f).0, small_of l (each_left Kind (leaves l) _ f))
  small_of (between op l r) f = ((each_right Kind (leaves l) _ f).0, small_of l (each_left Kind (leaves l) _ f), small_of r (each_right Kind (leaves l) _ f).1)
  small_of (call t args) f = (small_of t (each_left Kind (leaves t) _ f), args_small args (each_left Kind (arg_leaves args) _ (each_right Kind (leaves t) _ f).1))
  small_of (index t i) f = (small_of t (each_left Kind (leaves t) _ f), small_of i (each_left Kind (leaves i) _ (each_right Kind (leaves t) _ f).1))
  small_of (try t) f = small_of t (each_left Kind (leaves t) _ f)
  small_of (field s kind) f = stem_small s (each_left Kind (stem_leaves s) _ f)
  small_of (method s args) f = (stem_small s (each_left Kind (stem_leaves s) _ f), args_small args (each_left Kind (arg_leaves args) _ (each_right Kind (stem_leaves s) _ f).1.1))
  small_of (await s) f = stem_small s (each_left Kind (stem_leaves s) _ f)
  small_of (two_fields s) f = stem_small s (each_left Kind (stem_leaves s) _ f)
  small_of (lone s) f = stem_small s (each_left Kind (stem_leaves s) _ f)

  stem_small : (s : Stem) → Kinds (stem_leaves s) → SmallStem s
  stem_small (dotted t) f = small_of t (each_left Kind (leaves t) _ f)
  stem_small (pointed s) f = stem_small s (each_left Kind (stem_leaves s) _ f)

  args_small : (a : Args) → Kinds (arg_leaves a) → SmallArgs a
  args_small nothing f = tt
  args_small (last t) f = small_of t f
  args_small (more t a) f = (small_of t (each_left Kind (leaves t) _ f), args_small a (each_right Kind (leaves t) _ f).1)

-- the checks of a list
first_next : (fine : ℕ → Bool) (l : List ℕ) (k p : ℕ) (c : Bool) → fine (get_or l p 0) ≡ c → p + suc k ≤ whether c (λ _. first_off fine l (p + 1) k) (λ _. p) → (fine (get_or l p 0) ≡ true) × (p + 1 + k ≤ first_off fine l (p + 1) k)
unfolding whether
first_next fine l k p true q h = (q, omega arith)
first_next fine l k p false q h = absurd (omega arith)

first_all : (fine : ℕ → Bool) (l : List ℕ) (k p : ℕ) → p + k ≤ first_off fine l p k → (i : ℕ) → p ≤ i → i < p + k → fine (get_or l i 0) ≡ true
unfolding first_off
first_all fine l zero p h i a b = absurd (omega arith)
first_all fine l (suc k) p h i a b = go (eqb i p) refl (first_next fine l k p (fine (get_or l p 0)) refl h) (λ x y z. first_all fine l k (p + 1) x i y z)
  where
    go : (c : Bool) → eqb i p ≡ c → (fine (get_or l p 0) ≡ true) × (p + 1 + k ≤ first_off fine l (p + 1) k) → (p + 1 + k ≤ first_off fine l (p + 1) k → p + 1 ≤ i → i < p + 1 + k → fine (get_or l i 0) ≡ true) → fine (get_or l i 0) ≡ true
    go true q h f = ap (λ (j : ℕ). fine (get_or l j 0)) (eqb-true i p q) ∙ h.0
    go false q h f = let z = eqb-false i p q in f h.1 (omega arith) (omega arith)

abbrev Raw : Tokens → Type 0
Raw ts = (i : ℕ) → i < length ts.kinds → is_raw (kind_at ts i) ≡ true

bytes_raw : (ts : Tokens) → bytes_of ts 0 (length ts.kinds) ≡ Ok tt → Raw ts
unfolding bytes_of
bytes_raw ts =
    bound_by P (first_off is_raw ts.kinds 0 (length ts.kinds)) _
    (whether_by P (ltb (first_off is_raw ts.kinds 0 (length ts.kinds)) (0 + length ts.kinds)) _ _
    (λ _ q. absurd (let z : ◌≡◌ {A = ℕ} 0 1 = cc in omega arith))
    (λ h q i l. first_all is_raw ts.kinds (length ts.kinds) 0 (ltb-false _ _ h) i (omega arith) (omega arith)))
  where
    P : Checked → Type 0
    P r = r ≡ Ok tt → Raw ts

pub checked_raw : (ts : Tokens) → tokens_of ts ≡ Ok tt → Raw ts
unfolding tokens_of on_checked
checked_raw ts q = go (lengths_of ts) q
  where
    go : (c : Checked) → on_checked c (λ _. bytes_of ts 0 (length ts.kinds)) Err ≡ Ok tt → Raw ts
    go (Ok _) q = bytes_raw ts q
    go (Err r) q = absurd (let z : ◌≡◌ {A = ℕ} 0 1 = cc in omega arith)

kind_of : (ts : Tokens) → Raw ts → (p k : ℕ) → present ts p k ≡ true → k < 256
unfolding present parts_of is_glued follow
kind_of ts r p k =
    whether_by (λ (l : List ℕ). follow ts p l ≡ true → k < 256) _ _ _
    (λ g _. omega (arith, leb-true k SHREQ (both_true _ _ g).1))
    (λ _ h. let z = stands_says ts p k h in omega (arith, (raw_bounds k (ap is_raw (sym z.same) ∙ r p z.inside)).1))

covers_kinds : (ts : Tokens) → Raw ts → (p q : ℕ) (l : List Leaf) → Covers ts p l q → Kinds l
unfolding Covers
covers_kinds ts n p q [] c = tt
covers_kinds ts n p q (tok k ∷ l) c = (kind_of ts n p k c.0, covers_kinds ts n (p + width_of k) q l c.1)
covers_kinds ts n p q (float d ∷ l) c = covers_kinds ts n (p + 1) q l c.2

pub one_tree : (ts : Tokens) → Raw ts → (consumed : ℕ) (t t' : Tree) → Covers ts 0 (leaves t) consumed → Covers ts 0 (leaves t') consumed → flat t ≡ flat t' → t ≡ t'
one_tree ts r consumed t t' c c' e = flat_once t t' (small_of t (covers_kinds ts r 0 consumed (leaves t) c)) (small_of t' (covers_kinds ts r 0 consumed (leaves t') c')) e
