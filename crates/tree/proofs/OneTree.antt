-- `flat` is undone by `undo`: so the steps of a tree whose operators are kinds say which tree it is. Assumes nothing.
use mathlib.Core.Path.{◌≡◌, refl, sym, ap, ◌∙◌}
use mathlib.Core.List.{List, [], ◌∷◌, ◌++◌, append_assoc}
use mathlib.Core.Bool.{false}
use Prim.Native.Nat.{ℕ, zero, suc, ◌+◌, ◌≤◌, ◌<◌}
use native.Mathlib.Omega.{arith}
use lib.Dec.{eqb}
use borrow.Author.Tests.{lt-ltb, le-ltb, eq-eqb, ne_eqb}
use Rattle.base.specs.Base.{whether, called}
use Rattle.base.proofs.Laws.{whether_yes, whether_no, called_is}
use Rattle.input.specs.SyntaxKind.{IDENT, AS_KW, MUT_KW, AWAIT_KW, L_PAREN, R_PAREN, L_BRACK, R_BRACK, COMMA, DOT, AMP, QUESTION, COLON2, PATH, PAREN_EXPR, REF_EXPR, PREFIX_EXPR, BIN_EXPR, RANGE_EXPR, CALL_EXPR, ARG_LIST, INDEX_EXPR, METHOD_CALL_EXPR, FIELD_EXPR, AWAIT_EXPR, TRY_EXPR, CAST_EXPR, PATH_TYPE, TOKEN, LEAVE, FLOAT_SPLIT, ENDS_IN_DOT}
use Rattle.input.specs.Input.{width_of, parts_of, is_glued}
use Rattle.tree.specs.Tree.{Tree, literal, name, paren, prefix, borrowed, borrowed_mut, binary, cast, bare, up_to, from, between, call, index, try, field, method, await, two_fields, lone, Stem, dotted, pointed, Args, nothing, last, more, enter, raw, taken, leave, node_over, name_ref, segment, path_steps, flat, stem_steps, arg_steps}
use Rattle.tree.proofs.Measures.{size, stem_size, arg_size}
use Rattle.tree.proofs.Undo.{Item, whole, point, two, as_tree, head_n, kind_from, raw_from, path_of, Back, tree_of, stem_by, stem_of, end_of, field_by, field_of, args_of, list_of, ref_of, bin_of, cast_of, range_of, node_of}

-- its operators are kinds
unfoldable mutual
  pub Small : Tree → Type 0
  Small (literal kind) = Unit {0}
  Small (name n) = Unit {0}
  Small (paren t) = Small t
  Small (prefix op t) = (op < 256) × Small t
  Small (borrowed t) = Small t
  Small (borrowed_mut t) = Small t
  Small (binary op l r) = (op < 256) × Small l × Small r
  Small (cast l n) = Small l
  Small (bare op) = op < 256
  Small (up_to op r) = (op < 256) × Small r
  Small (from op l) = (op < 256) × Small l
  Small (between op l r) = (op < 256) × Small l × Small r
  Small (call t args) = Small t × SmallArgs args
  Small (index t i) = Small t × Small i
  Small (try t) = Small t
  Small (field s kind) = SmallStem s
  Small (method s args) = SmallStem s × SmallArgs args
  Small (await s) = SmallStem s
  Small (two_fields s) = SmallStem s
  Small (lone s) = SmallStem s

  pub SmallStem : Stem → Type 0
  SmallStem (dotted t) = Small t
  SmallStem (pointed s) = SmallStem s

  pub SmallArgs : Args → Type 0
  SmallArgs nothing = Unit {0}
  SmallArgs (last t) = Small t
  SmallArgs (more t a) = Small t × SmallArgs a

-- what a tree's node is read as
unfoldable pub item_of : Tree → Item
item_of (literal kind) = whole (literal kind)
item_of (name n) = whole (name n)
item_of (paren t) = whole (paren t)
item_of (prefix op t) = whole (prefix op t)
item_of (borrowed t) = whole (borrowed t)
item_of (borrowed_mut t) = whole (borrowed_mut t)
item_of (binary op l r) = whole (binary op l r)
item_of (cast l n) = whole (cast l n)
item_of (bare op) = whole (bare op)
item_of (up_to op r) = whole (up_to op r)
item_of (from op l) = whole (from op l)
item_of (between op l r) = whole (between op l r)
item_of (call t args) = whole (call t args)
item_of (index t i) = whole (index t i)
item_of (try t) = whole (try t)
item_of (field s kind) = whole (field s kind)
item_of (method s args) = whole (method s args)
item_of (await s) = whole (await s)
item_of (two_fields s) = whole (two_fields s)
item_of (lone s) = point s

pub is_tree : (t : Tree) → as_tree (item_of t) ≡ t
unfolding item_of
is_tree (literal kind) = refl
is_tree (name n) = refl
is_tree (paren t) = refl
is_tree (prefix op t) = refl
is_tree (borrowed t) = refl
is_tree (borrowed_mut t) = refl
is_tree (binary op l r) = refl
is_tree (cast l n) = refl
is_tree (bare op) = refl
is_tree (up_to op r) = refl
is_tree (from op l) = refl
is_tree (between op l r) = refl
is_tree (call t args) = refl
is_tree (index t i) = refl
is_tree (try t) = refl
is_tree (field s kind) = refl
is_tree (method s args) = refl
is_tree (await s) = refl
is_tree (two_fields s) = refl
is_tree (lone s) = refl

-- a tree begins with an enter
begins : (t : Tree) (r : List ℕ) → head_n (flat t ++ r) < TOKEN
unfolding flat
begins (literal kind) z = omega arith
begins (name n) z = omega arith
begins (paren t) z = omega arith
begins (prefix op t) z = omega arith
begins (borrowed t) z = omega arith
begins (borrowed_mut t) z = omega arith
begins (binary op l r) z = omega arith
begins (cast l n) z = omega arith
begins (bare op) z = omega arith
begins (up_to op r) z = omega arith
begins (from op l) z = omega arith
begins (between op l r) z = omega arith
begins (call t args) z = omega arith
begins (index t i) z = omega arith
begins (try t) z = omega arith
begins (field s kind) z = omega arith
begins (method s args) z = omega arith
begins (await s) z = omega arith
begins (two_fields s) z = omega arith
begins (lone s) z = omega arith

kind_back : (op : ℕ) → op < 256 → kind_from (taken op) ≡ op
kind_back op h = omega arith

pub raw_back : (k : ℕ) → raw_from (raw k) ≡ k
raw_back k = omega arith

-- a path
path_first : (n : ℕ) (r : List ℕ) → head_n (path_steps n ++ r) ≡ enter PATH
unfolding path_steps
path_first zero r = refl
path_first (suc n) r = refl

path_more : (n : ℕ) (r : List ℕ) → path_steps (suc n) ++ r ≡ enter PATH ∷ (path_steps n ++ (taken COLON2 ∷ (segment ++ (leave ∷ r))))
unfolding path_steps
path_more n r = ap (λ (l : List ℕ). enter PATH ∷ l) (append_assoc (path_steps n ++ (taken COLON2 ∷ segment)) (leave ∷ []) r ∙ append_assoc (path_steps n) (taken COLON2 ∷ segment) (leave ∷ r))

path_zero : (r : List ℕ) → path_of (path_steps 0 ++ r) ≡ (0, r)
unfolding path_of path_steps whether
path_zero r = refl

pub path_back : (n : ℕ) (r : List ℕ) → path_of (path_steps n ++ r) ≡ (n, r)
unfolding path_of
path_back zero r = path_zero r
path_back (suc n) r = ap path_of (path_more n r) ∙ sym (whether_yes _ _ (eq-eqb _ _ (path_first n _)) (called_is _ (sym (path_back n (taken COLON2 ∷ (segment ++ (leave ∷ r))))) refl))

-- a reader that undoes trees up to a size, and the inner of two fields
pub record Undoes (n : ℕ) (rd : Back) : Type 0 where
  pub trees : (t : Tree) → size t ≤ n → Small t → (r : List ℕ) → rd (flat t ++ r) ≡ (item_of t, r)
  pub halves : (s : Stem) → stem_size s < n → SmallStem s → (r : List ℕ) → rd (enter FIELD_EXPR ∷ (stem_steps s ++ (FLOAT_SPLIT ∷ r))) ≡ (two s, r)

-- behind a tree stands its dot
dot_behind : (f : ℕ) (rd : Back) (t : Tree) (r : List ℕ) → stem_by f rd (item_of t) (taken DOT ∷ r) ≡ (dotted t, r)
unfolding stem_by item_of
dot_behind f rd (literal kind) z = refl
dot_behind f rd (name n) z = refl
dot_behind f rd (paren t) z = refl
dot_behind f rd (prefix op t) z = refl
dot_behind f rd (borrowed t) z = refl
dot_behind f rd (borrowed_mut t) z = refl
dot_behind f rd (binary op l r) z = refl
dot_behind f rd (cast l n) z = refl
dot_behind f rd (bare op) z = refl
dot_behind f rd (up_to op r) z = refl
dot_behind f rd (from op l) z = refl
dot_behind f rd (between op l r) z = refl
dot_behind f rd (call t args) z = refl
dot_behind f rd (index t i) z = refl
dot_behind f rd (try t) z = refl
dot_behind f rd (field s kind) z = refl
dot_behind f rd (method s args) z = refl
dot_behind f rd (await s) z = refl
dot_behind f rd (two_fields s) z = refl
dot_behind f rd (lone s) z = sym (whether_yes _ _ (eq-eqb (taken DOT) (taken DOT) refl) refl)

field_behind : (f : ℕ) (rd : Back) (t : Tree) (r : List ℕ) → field_by f rd (item_of t) (taken DOT ∷ r) ≡ end_of f rd (dotted t) r
unfolding field_by stem_by item_of called
field_behind f rd (literal kind) z = refl
field_behind f rd (name n) z = refl
field_behind f rd (paren t) z = refl
field_behind f rd (prefix op t) z = refl
field_behind f rd (borrowed t) z = refl
field_behind f rd (borrowed_mut t) z = refl
field_behind f rd (binary op l r) z = refl
field_behind f rd (cast l n) z = refl
field_behind f rd (bare op) z = refl
field_behind f rd (up_to op r) z = refl
field_behind f rd (from op l) z = refl
field_behind f rd (between op l r) z = refl
field_behind f rd (call t args) z = refl
field_behind f rd (index t i) z = refl
field_behind f rd (try t) z = refl
field_behind f rd (field s kind) z = refl
field_behind f rd (method s args) z = refl
field_behind f rd (await s) z = refl
field_behind f rd (two_fields s) z = refl
field_behind f rd (lone s) z = ap (λ (x : Stem × List ℕ). end_of f rd x.0 x.1) (dot_behind f rd (lone s) z)

-- behind a float's dot stands no other
point_behind : (f : ℕ) (rd : Back) (s : Stem) (r : List ℕ) → eqb (head_n r) (taken DOT) ≡ false → stem_by f rd (point s) r ≡ (pointed s, r)
unfolding stem_by
point_behind f rd s r d = sym (whether_no _ _ d refl)

field_pointed : (f : ℕ) (rd : Back) (s : Stem) (r : List ℕ) → eqb (head_n r) (taken DOT) ≡ false → field_by f rd (point s) r ≡ end_of f rd (pointed s) r
unfolding field_by called
field_pointed f rd s r d = ap (λ (x : Stem × List ℕ). end_of f rd x.0 x.1) (point_behind f rd s r d)

module _ (n : ℕ) (rd : Back) (ih : Undoes n rd) where
  tree_back : (t : Tree) → size t ≤ n → Small t → (r : List ℕ) → tree_of n rd (flat t ++ r) ≡ (t, r)
  unfolding tree_of
  tree_back t h m r = sym (called_is _ (sym (ih.trees t h m r)) (ap (λ (x : Tree). (x, r)) (sym (is_tree t))))

  -- a stem, behind which no dot stands
  NoDot : List ℕ → Type 0
  NoDot r = eqb (head_n r) (taken DOT) ≡ false

  stem_back : (s : Stem) → stem_size s ≤ n → SmallStem s → (r : List ℕ) → NoDot r → stem_of n rd (stem_steps s ++ r) ≡ (s, r)
  unfolding stem_of flat size Small NoDot item_of
  stem_back (dotted t) h m r d = ap (stem_of n rd) (append_assoc (flat t) (taken DOT ∷ []) r) ∙ sym (called_is _ (sym (ih.trees t (omega arith) m (taken DOT ∷ r))) (sym (dot_behind n rd t r)))
  stem_back (pointed s) h m r d = sym (called_is _ (sym (ih.trees (lone s) (omega arith) m r)) (sym (point_behind n rd s r d)))

  field_back : (s : Stem) → stem_size s ≤ n → SmallStem s → (r : List ℕ) → NoDot r → field_of n rd (stem_steps s ++ r) ≡ end_of n rd s r
  unfolding field_of flat size Small NoDot item_of
  field_back (dotted t) h m r d = ap (field_of n rd) (append_assoc (flat t) (taken DOT ∷ []) r) ∙ sym (called_is _ (sym (ih.trees t (omega arith) m (taken DOT ∷ r))) (sym (field_behind n rd t r)))
  field_back (pointed s) h m r d = sym (called_is _ (sym (ih.trees (lone s) (omega arith) m r)) (sym (field_pointed n rd s r d)))

  paren_no_comma : eqb (taken R_PAREN) (taken COMMA) ≡ false
  unfolding width_of parts_of is_glued whether
  paren_no_comma = refl

  args_back : (a : Args) (k : ℕ) → arg_size a ≤ k → arg_size a ≤ n → SmallArgs a → (r : List ℕ) → args_of n rd k (arg_steps a ++ (taken R_PAREN ∷ r)) ≡ (a, taken R_PAREN ∷ r)
  unfolding args_of flat size Small
  args_back nothing zero h z m r = absurd (omega arith)
  args_back (last t) zero h z m r = absurd (omega arith)
  args_back (more t a) zero h z m r = absurd (omega arith)
  args_back nothing (suc k) h z m r = sym (whether_no _ _ (le-ltb (taken R_PAREN) TOKEN (omega arith)) refl)
  args_back (last t) (suc k) h z m r =
      sym (whether_yes _ _ (lt-ltb _ TOKEN (begins t (taken R_PAREN ∷ r))) (called_is _ (sym (tree_back t (omega arith) m (taken R_PAREN ∷ r))) (whether_no _ _ paren_no_comma refl)))
  args_back (more t a) (suc k) h z m r =
      let q : List ℕ = arg_steps a ++ (taken R_PAREN ∷ r) in
      ap (args_of n rd (suc k)) (append_assoc (flat t) (taken COMMA ∷ arg_steps a) (taken R_PAREN ∷ r))
      ∙ sym (whether_yes _ _ (lt-ltb _ TOKEN (begins t (taken COMMA ∷ q))) (called_is _ (sym (tree_back t (omega arith) m.0 (taken COMMA ∷ q))) (whether_yes _ _ (eq-eqb (taken COMMA) (taken COMMA) refl) (called_is _ (sym (args_back a k (omega arith) (omega arith) m.1 r)) refl))))

  list_back : (a : Args) → arg_size a ≤ n → SmallArgs a → (r : List ℕ) → list_of n rd (node_over ARG_LIST (taken L_PAREN ∷ (arg_steps a ++ (taken R_PAREN ∷ []))) ++ r) ≡ (a, r)
  unfolding list_of
  list_back a h m r =
      let e : args_of n rd n (((arg_steps a ++ (taken R_PAREN ∷ [])) ++ (leave ∷ [])) ++ r) ≡ (a, taken R_PAREN ∷ leave ∷ r) =
      ap (args_of n rd n) (append_assoc (arg_steps a ++ (taken R_PAREN ∷ [])) (leave ∷ []) r ∙ append_assoc (arg_steps a) (taken R_PAREN ∷ []) (leave ∷ r)) ∙ args_back a n h h m (leave ∷ r) in
      sym (called_is _ (sym e) refl)

  await_no_dot : eqb (taken AWAIT_KW) (taken DOT) ≡ false
  unfolding width_of parts_of is_glued whether
  await_no_dot = refl

  split_no_dot : eqb (FLOAT_SPLIT + ENDS_IN_DOT) (taken DOT) ≡ false
  unfolding width_of parts_of is_glued whether
  split_no_dot = refl

  half_no_dot : eqb FLOAT_SPLIT (taken DOT) ≡ false
  unfolding width_of parts_of is_glued whether
  half_no_dot = refl

  -- one node, by its kind
  abbrev pub node : ℕ → List ℕ → Item × List ℕ
  node k l = node_of n rd (enter k) l

  module _ (r : List ℕ) where
    pub paren_node : (t : Tree) → size t ≤ n → Small t → node PAREN_EXPR (taken L_PAREN ∷ (flat t ++ (taken R_PAREN ∷ leave ∷ r))) ≡ (whole (paren t), r)
    unfolding node_of whether
    paren_node t h m = sym (called_is _ (sym (tree_back t h m (taken R_PAREN ∷ leave ∷ r))) refl)

    pub prefix_node : (op : ℕ) (t : Tree) → op < 256 → size t ≤ n → Small t → node PREFIX_EXPR (taken op ∷ (flat t ++ (leave ∷ r))) ≡ (whole (prefix op t), r)
    unfolding node_of whether
    prefix_node op t o h m = sym (called_is _ (sym (tree_back t h m (leave ∷ r))) (ap (λ (k : ℕ). (whole (prefix k t), r)) (sym (kind_back op o))))

    pub mut_node : (t : Tree) → size t ≤ n → Small t → node REF_EXPR (taken AMP ∷ taken MUT_KW ∷ (flat t ++ (leave ∷ r))) ≡ (whole (borrowed_mut t), r)
    unfolding node_of ref_of whether
    mut_node t h m = sym (whether_yes _ _ (eq-eqb (taken MUT_KW) (taken MUT_KW) refl) (called_is _ (sym (tree_back t h m (leave ∷ r))) refl))

    pub borrow_node : (t : Tree) → size t ≤ n → Small t → node REF_EXPR (taken AMP ∷ (flat t ++ (leave ∷ r))) ≡ (whole (borrowed t), r)
    unfolding node_of ref_of whether
    borrow_node t h m = sym (whether_no _ _ (ne_eqb _ (taken MUT_KW) (λ q. omega (arith, begins t (leave ∷ r)))) (called_is _ (sym (tree_back t h m (leave ∷ r))) refl))

    pub binary_node : (op : ℕ) (a b : Tree) → op < 256 → size a ≤ n → size b ≤ n → Small a → Small b → node BIN_EXPR (flat a ++ (taken op ∷ (flat b ++ (leave ∷ r)))) ≡ (whole (binary op a b), r)
    unfolding node_of bin_of whether
    binary_node op a b o ha hb ma mb = sym (called_is _ (sym (tree_back a ha ma (taken op ∷ (flat b ++ (leave ∷ r))))) (called_is _ (sym (tree_back b hb mb (leave ∷ r))) (ap (λ (k : ℕ). (whole (binary k a b), r)) (sym (kind_back op o)))))

    pub cast_node : (a : Tree) (k : ℕ) → size a ≤ n → Small a → node CAST_EXPR (flat a ++ (taken AS_KW ∷ enter PATH_TYPE ∷ (path_steps k ++ (leave ∷ leave ∷ r)))) ≡ (whole (cast a k), r)
    unfolding node_of cast_of whether
    cast_node a k h m = sym (called_is _ (sym (tree_back a h m (taken AS_KW ∷ enter PATH_TYPE ∷ (path_steps k ++ (leave ∷ leave ∷ r))))) (called_is _ (sym (path_back k (leave ∷ leave ∷ r))) refl))

    range_node : (l : List ℕ) → node RANGE_EXPR l ≡ range_of n rd l
    unfolding node_of whether
    range_node l = refl

    pub bare_node : (op : ℕ) → op < 256 → node RANGE_EXPR (taken op ∷ leave ∷ r) ≡ (whole (bare op), r)
    unfolding range_of
    bare_node op o = range_node _ ∙ sym (whether_no _ _ (le-ltb (taken op) TOKEN (omega arith)) (whether_yes _ _ refl (ap (λ (k : ℕ). (whole (bare k), r)) (sym (kind_back op o)))))

    pub up_node : (op : ℕ) (b : Tree) → op < 256 → size b ≤ n → Small b → node RANGE_EXPR (taken op ∷ (flat b ++ (leave ∷ r))) ≡ (whole (up_to op b), r)
    unfolding range_of
    up_node op b o h m = range_node _ ∙ sym (whether_no _ _ (le-ltb (taken op) TOKEN (omega arith)) (whether_no _ _ (ne_eqb (head_n (flat b ++ (leave ∷ r))) LEAVE (λ q. omega (arith, begins b (leave ∷ r)))) (called_is _ (sym (tree_back b h m (leave ∷ r))) (ap (λ (k : ℕ). (whole (up_to k b), r)) (sym (kind_back op o))))))

    pub from_node : (op : ℕ) (a : Tree) → op < 256 → size a ≤ n → Small a → node RANGE_EXPR (flat a ++ (taken op ∷ leave ∷ r)) ≡ (whole (from op a), r)
    unfolding range_of
    from_node op a o h m = range_node _ ∙ sym (whether_yes _ _ (lt-ltb _ TOKEN (begins a (taken op ∷ leave ∷ r))) (called_is _ (sym (tree_back a h m (taken op ∷ leave ∷ r))) (whether_yes _ _ refl (ap (λ (k : ℕ). (whole (from k a), r)) (sym (kind_back op o))))))

    pub between_node : (op : ℕ) (a b : Tree) → op < 256 → size a ≤ n → size b ≤ n → Small a → Small b → node RANGE_EXPR (flat a ++ (taken op ∷ (flat b ++ (leave ∷ r)))) ≡ (whole (between op a b), r)
    unfolding range_of
    between_node op a b o ha hb ma mb = range_node _ ∙
        sym (whether_yes _ _ (lt-ltb _ TOKEN (begins a (taken op ∷ (flat b ++ (leave ∷ r))))) (called_is _ (sym (tree_back a ha ma (taken op ∷ (flat b ++ (leave ∷ r)))))
        (whether_no _ _ (ne_eqb (head_n (flat b ++ (leave ∷ r))) LEAVE (λ q. omega (arith, begins b (leave ∷ r)))) (called_is _ (sym (tree_back b hb mb (leave ∷ r))) (ap (λ (k : ℕ). (whole (between k a b), r)) (sym (kind_back op o)))))))

    pub call_node : (t : Tree) (a : Args) → size t ≤ n → arg_size a ≤ n → Small t → SmallArgs a → node CALL_EXPR (flat t ++ (node_over ARG_LIST (taken L_PAREN ∷ (arg_steps a ++ (taken R_PAREN ∷ []))) ++ (leave ∷ r))) ≡ (whole (call t a), r)
    unfolding node_of whether
    call_node t a ht ha mt ma = sym (called_is _ (sym (tree_back t ht mt (node_over ARG_LIST (taken L_PAREN ∷ (arg_steps a ++ (taken R_PAREN ∷ []))) ++ (leave ∷ r)))) (called_is _ (sym (list_back a ha ma (leave ∷ r))) refl))

    pub index_node : (t i : Tree) → size t ≤ n → size i ≤ n → Small t → Small i → node INDEX_EXPR (flat t ++ (taken L_BRACK ∷ (flat i ++ (taken R_BRACK ∷ leave ∷ r)))) ≡ (whole (index t i), r)
    unfolding node_of whether
    index_node t i ht hi mt mi = sym (called_is _ (sym (tree_back t ht mt (taken L_BRACK ∷ (flat i ++ (taken R_BRACK ∷ leave ∷ r))))) (called_is _ (sym (tree_back i hi mi (taken R_BRACK ∷ leave ∷ r))) refl))

    pub try_node : (t : Tree) → size t ≤ n → Small t → node TRY_EXPR (flat t ++ (taken QUESTION ∷ leave ∷ r)) ≡ (whole (try t), r)
    unfolding node_of whether
    try_node t h m = sym (called_is _ (sym (tree_back t h m (taken QUESTION ∷ leave ∷ r))) refl)

    pub method_node : (s : Stem) (a : Args) → stem_size s ≤ n → arg_size a ≤ n → SmallStem s → SmallArgs a → node METHOD_CALL_EXPR (stem_steps s ++ (name_ref IDENT ++ (node_over ARG_LIST (taken L_PAREN ∷ (arg_steps a ++ (taken R_PAREN ∷ []))) ++ (leave ∷ r)))) ≡ (whole (method s a), r)
    unfolding node_of whether NoDot
    method_node s a hs ha ms ma =
        sym (called_is _ (sym (stem_back s hs ms (name_ref IDENT ++ (node_over ARG_LIST (taken L_PAREN ∷ (arg_steps a ++ (taken R_PAREN ∷ []))) ++ (leave ∷ r))) (ne_eqb _ (taken DOT) (λ q. omega arith))))
        (called_is _ (sym (list_back a ha ma (leave ∷ r))) refl))

    pub await_node : (s : Stem) → stem_size s ≤ n → SmallStem s → node AWAIT_EXPR (stem_steps s ++ (taken AWAIT_KW ∷ leave ∷ r)) ≡ (whole (await s), r)
    unfolding node_of whether NoDot
    await_node s h m = sym (called_is _ (sym (stem_back s h m (taken AWAIT_KW ∷ leave ∷ r) await_no_dot)) refl)

    pub field_node : (s : Stem) (k : ℕ) → stem_size s ≤ n → SmallStem s → node FIELD_EXPR (stem_steps s ++ (name_ref k ++ (leave ∷ r))) ≡ (whole (field s k), r)
    unfolding node_of end_of whether NoDot
    field_node s k h m = field_back s h m (name_ref k ++ (leave ∷ r)) (ne_eqb _ (taken DOT) (λ q. omega arith)) ∙ ap (λ (j : ℕ). (whole (field s j), r)) (raw_back k)

    pub lone_node : (s : Stem) → stem_size s ≤ n → SmallStem s → node FIELD_EXPR (stem_steps s ++ ((FLOAT_SPLIT + ENDS_IN_DOT) ∷ r)) ≡ (point s, r)
    unfolding node_of end_of whether NoDot
    lone_node s h m = field_back s h m ((FLOAT_SPLIT + ENDS_IN_DOT) ∷ r) split_no_dot

    pub half_node : (s : Stem) → stem_size s ≤ n → SmallStem s → node FIELD_EXPR (stem_steps s ++ (FLOAT_SPLIT ∷ r)) ≡ (two s, r)
    unfolding node_of end_of whether NoDot
    half_node s h m = field_back s h m (FLOAT_SPLIT ∷ r) half_no_dot

    pub two_node : (s : Stem) → stem_size s < n → SmallStem s → node FIELD_EXPR (enter FIELD_EXPR ∷ (stem_steps s ++ (FLOAT_SPLIT ∷ r))) ≡ (whole (two_fields s), r)
    unfolding node_of field_of field_by whether
    two_node s h m = sym (called_is _ (sym (ih.halves s h m r)) refl)
