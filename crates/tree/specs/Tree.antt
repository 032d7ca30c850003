-- A formula as a tree, whose leaves are tokens; its leaves in order; and the steps that stand for it.
use Rattle.std.specs.Prelude.{ℕ, zero, suc, ◌+◌, ◌*◌, ◌≡◌, Bool, true, false, List, [], ◌∷◌, ◌++◌, eqb}
use Rattle.input.specs.SyntaxKind.{IDENT, FLOAT_NUMBER, AS_KW, MUT_KW, AWAIT_KW, L_PAREN, R_PAREN, L_BRACK, R_BRACK, COMMA, DOT, AMP, QUESTION, COLON2, LITERAL, PATH_EXPR, PATH, PATH_SEGMENT, NAME_REF, PAREN_EXPR, REF_EXPR, PREFIX_EXPR, BIN_EXPR, RANGE_EXPR, CALL_EXPR, ARG_LIST, INDEX_EXPR, METHOD_CALL_EXPR, FIELD_EXPR, AWAIT_EXPR, TRY_EXPR, CAST_EXPR, PATH_TYPE, ENTER, TOKEN, LEAVE, FLOAT_SPLIT, ENDS_IN_DOT, WIDTH_STEP}
use Rattle.input.specs.Input.{Tokens, joint_at, stands, parts_of, width_of, present}

-- A number is the kind of a token (`binary PLUS l r`), or of a path how many names follow its first (`name 2` is `a::b::c`).
mutual
  pub data Tree : Type 0 where
    literal : ℕ → Tree
    name : ℕ → Tree
    -- ( t )
    paren : Tree → Tree
    -- * t, ! t, - t
    prefix : ℕ → Tree → Tree
    -- & t, &mut t
    borrowed borrowed_mut : Tree → Tree
    -- l op r
    binary : ℕ → Tree → Tree → Tree
    -- l as path
    cast : Tree → ℕ → Tree
    -- .., .. r, l .., l .. r
    bare : ℕ → Tree
    up_to : ℕ → Tree → Tree
    from : ℕ → Tree → Tree
    between : ℕ → Tree → Tree → Tree
    -- t ( args ), t [ i ], t ?
    call : Tree → Args → Tree
    index : Tree → Tree → Tree
    try : Tree → Tree
    -- t . name, with an IDENT or INT_NUMBER; t . name ( args ); t . await
    field : Stem → ℕ → Tree
    method : Stem → Args → Tree
    await : Stem → Tree
    -- t . 0.1: one FLOAT_NUMBER that is two names
    two_fields : Stem → Tree
    -- t . 0. with nothing to come but a range
    lone : Stem → Tree

  -- what stands before a name: an expression and a dot; or a field whose one FLOAT_NUMBER, `0.`, is its name and the dot behind it
  pub data Stem : Type 0 where
    dotted : Tree → Stem
    pointed : Stem → Stem

  -- nothing; t; t , args
  pub data Args : Type 0 where
    nothing : Args
    last : Tree → Args
    more : Tree → Args → Args

-- a leaf is a token, raw or glued; or a FLOAT_NUMBER that is split, and whether it ends in a dot
pub data Leaf : Type 0 where
  tok : ℕ → Leaf
  float : Bool → Leaf

-- the leaves of `:: IDENT`, so often; of a path
unfoldable pub rest : ℕ → List Leaf
rest zero = []
rest (suc n) = rest n ++ (tok COLON2 ∷ tok IDENT ∷ [])

unfoldable pub path : ℕ → List Leaf
path n = tok IDENT ∷ rest n

unfoldable mutual
  pub leaves : Tree → List Leaf
  leaves (literal kind) = tok kind ∷ []
  leaves (name n) = path n
  leaves (paren t) = tok L_PAREN ∷ (leaves t ++ (tok R_PAREN ∷ []))
  leaves (prefix op t) = tok op ∷ leaves t
  leaves (borrowed t) = tok AMP ∷ leaves t
  leaves (borrowed_mut t) = tok AMP ∷ tok MUT_KW ∷ leaves t
  leaves (binary op l r) = leaves l ++ (tok op ∷ leaves r)
  leaves (cast l n) = leaves l ++ (tok AS_KW ∷ path n)
  leaves (bare op) = tok op ∷ []
  leaves (up_to op r) = tok op ∷ leaves r
  leaves (from op l) = leaves l ++ (tok op ∷ [])
  leaves (between op l r) = leaves l ++ (tok op ∷ leaves r)
  leaves (call t args) = leaves t ++ (tok L_PAREN ∷ (arg_leaves args ++ (tok R_PAREN ∷ [])))
  leaves (index t i) = leaves t ++ (tok L_BRACK ∷ (leaves i ++ (tok R_BRACK ∷ [])))
  leaves (try t) = leaves t ++ (tok QUESTION ∷ [])
  leaves (field s kind) = stem_leaves s ++ (tok kind ∷ [])
  leaves (method s args) = stem_leaves s ++ (tok IDENT ∷ tok L_PAREN ∷ (arg_leaves args ++ (tok R_PAREN ∷ [])))
  leaves (await s) = stem_leaves s ++ (tok AWAIT_KW ∷ [])
  leaves (two_fields s) = stem_leaves s ++ (float false ∷ [])
  leaves (lone s) = stem_leaves s ++ (float true ∷ [])

  pub stem_leaves : Stem → List Leaf
  stem_leaves (dotted t) = leaves t ++ (tok DOT ∷ [])
  stem_leaves (pointed s) = stem_leaves s ++ (float true ∷ [])

  pub arg_leaves : Args → List Leaf
  arg_leaves nothing = []
  arg_leaves (last t) = leaves t
  arg_leaves (more t args) = leaves t ++ (tok COMMA ∷ arg_leaves args)

-- the raw kinds that a leaf is made of
abbrev pub raws_of : Leaf → List ℕ
raws_of (tok kind) = parts_of kind
raws_of (float dot) = FLOAT_NUMBER ∷ []

unfoldable pub raws : List Leaf → List ℕ
raws [] = []
raws (x ∷ l) = raws_of x ++ raws l

-- the leaves stand in the list one after the other from p to q: a token is present at its place, a split float is one whose joint byte says how it ends
unfoldable pub Covers : Tokens → ℕ → List Leaf → ℕ → Type 0
Covers ts p [] q = p ≡ q
Covers ts p (tok kind ∷ l) q = (present ts p kind ≡ true) × Covers ts (p + width_of kind) l q
Covers ts p (float dot ∷ l) q = (stands ts p FLOAT_NUMBER ≡ true) × (eqb (joint_at ts p) 0 ≡ dot) × Covers ts (p + 1) l q

-- "enter 65,536 + node; token 131,072 + 256 × raw width + kind; leave 196,608; float split 262,144, + 1 if it ends in a dot"
abbrev pub enter : ℕ → ℕ
enter node = ENTER + node

abbrev pub raw : ℕ → ℕ
raw kind = TOKEN + WIDTH_STEP * 1 + kind

abbrev pub taken : ℕ → ℕ
taken kind = TOKEN + WIDTH_STEP * width_of kind + kind

abbrev pub leave : ℕ
leave = LEAVE

abbrev pub node_over : ℕ → List ℕ → List ℕ
node_over node steps = enter node ∷ (steps ++ (leave ∷ []))

-- "IDENT (`::` IDENT)* gives PATH_EXPR over PATHs nested to the left, each PATH_SEGMENT holding NAME_REF."
abbrev pub name_ref : ℕ → List ℕ
name_ref kind = node_over NAME_REF (raw kind ∷ [])

abbrev pub segment : List ℕ
segment = node_over PATH_SEGMENT (name_ref IDENT)

unfoldable pub path_steps : ℕ → List ℕ
path_steps zero = node_over PATH segment
path_steps (suc n) = node_over PATH (path_steps n ++ (taken COLON2 ∷ segment))

-- "A split stands for one leave if it ends in a dot, two if not."
unfoldable mutual
  pub flat : Tree → List ℕ
  flat (literal kind) = node_over LITERAL (raw kind ∷ [])
  flat (name n) = node_over PATH_EXPR (path_steps n)
  flat (paren t) = node_over PAREN_EXPR (taken L_PAREN ∷ (flat t ++ (taken R_PAREN ∷ [])))
  flat (prefix op t) = node_over PREFIX_EXPR (taken op ∷ flat t)
  flat (borrowed t) = node_over REF_EXPR (taken AMP ∷ flat t)
  flat (borrowed_mut t) = node_over REF_EXPR (taken AMP ∷ taken MUT_KW ∷ flat t)
  flat (binary op l r) = node_over BIN_EXPR (flat l ++ (taken op ∷ flat r))
  flat (cast l n) = node_over CAST_EXPR (flat l ++ (taken AS_KW ∷ node_over PATH_TYPE (path_steps n)))
  flat (bare op) = node_over RANGE_EXPR (taken op ∷ [])
  flat (up_to op r) = node_over RANGE_EXPR (taken op ∷ flat r)
  flat (from op l) = node_over RANGE_EXPR (flat l ++ (taken op ∷ []))
  flat (between op l r) = node_over RANGE_EXPR (flat l ++ (taken op ∷ flat r))
  flat (call t args) = node_over CALL_EXPR (flat t ++ node_over ARG_LIST (taken L_PAREN ∷ (arg_steps args ++ (taken R_PAREN ∷ []))))
  flat (index t i) = node_over INDEX_EXPR (flat t ++ (taken L_BRACK ∷ (flat i ++ (taken R_BRACK ∷ []))))
  flat (try t) = node_over TRY_EXPR (flat t ++ (taken QUESTION ∷ []))
  flat (field s kind) = node_over FIELD_EXPR (stem_steps s ++ name_ref kind)
  flat (method s args) = node_over METHOD_CALL_EXPR (stem_steps s ++ (name_ref IDENT ++ node_over ARG_LIST (taken L_PAREN ∷ (arg_steps args ++ (taken R_PAREN ∷ [])))))
  flat (await s) = node_over AWAIT_EXPR (stem_steps s ++ (taken AWAIT_KW ∷ []))
  flat (two_fields s) = enter FIELD_EXPR ∷ enter FIELD_EXPR ∷ (stem_steps s ++ (FLOAT_SPLIT ∷ []))
  flat (lone s) = enter FIELD_EXPR ∷ (stem_steps s ++ ((FLOAT_SPLIT + ENDS_IN_DOT) ∷ []))

  pub stem_steps : Stem → List ℕ
  stem_steps (dotted t) = flat t ++ (taken DOT ∷ [])
  stem_steps (pointed s) = enter FIELD_EXPR ∷ (stem_steps s ++ ((FLOAT_SPLIT + ENDS_IN_DOT) ∷ []))

  pub arg_steps : Args → List ℕ
  arg_steps nothing = []
  arg_steps (last t) = flat t
  arg_steps (more t args) = flat t ++ (taken COMMA ∷ arg_steps args)
