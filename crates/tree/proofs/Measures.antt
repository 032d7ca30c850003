-- Of trees: their size, the number of forms on their left spine, what may follow them, how the leaves of one without ranges begin, and what holds of each token among leaves. Assumes nothing.
use mathlib.Core.Path.{◌≡◌, refl, sym, subst}
use mathlib.Core.List.{List, [], ◌∷◌, ◌++◌, append_assoc}
use mathlib.Core.Bool.{Bool, true, false, false≢true}
use Prim.Native.Nat.{ℕ, suc, ◌+◌, ◌≤◌, ◌<◌}
use native.Mathlib.Omega.{arith}
use lib.Dec.{eqb}
use borrow.Author.Tests.{eqb-true}
use Rattle.base.specs.Base.{whether}
use Rattle.input.specs.SyntaxKind.{IDENT, INT_NUMBER, FLOAT_NUMBER, STRING, TRUE_KW, FALSE_KW, MUT_KW, L_PAREN, R_PAREN, L_BRACK, DOT, QUESTION, COLON2, STAR, BANG, MINUS}
use Rattle.tree.specs.Tree.{Tree, literal, name, paren, prefix, borrowed, borrowed_mut, binary, cast, bare, up_to, from, between, call, index, try, field, method, await, two_fields, lone, Stem, dotted, pointed, Args, nothing, last, more, Leaf, tok, float, path, leaves, stem_leaves}
use Rattle.tree.specs.Table.{holds}
use Rattle.tree.specs.Grouped.{rank, field_name, literals, prefixes, names, Grouped, GroupedStem}
use Rattle.tree.proofs.Again.{head_of, power, right_power}

-- without ranges
unfoldable mutual
  pub Plain : Tree → Type 0
  Plain (literal kind) = Unit {0}
  Plain (name n) = Unit {0}
  Plain (paren t) = Plain t
  Plain (prefix op t) = Plain t
  Plain (borrowed t) = Plain t
  Plain (borrowed_mut t) = Plain t
  Plain (binary op l r) = Plain l × Plain r
  Plain (cast l n) = Plain l
  Plain (bare op) = ⊥
  Plain (up_to op r) = ⊥
  Plain (from op l) = ⊥
  Plain (between op l r) = ⊥
  Plain (call t args) = Plain t × PlainArgs args
  Plain (index t i) = Plain t × Plain i
  Plain (try t) = Plain t
  Plain (field s kind) = PlainStem s
  Plain (method s args) = PlainStem s × PlainArgs args
  Plain (await s) = PlainStem s
  Plain (two_fields s) = PlainStem s
  Plain (lone s) = ⊥

  pub PlainStem : Stem → Type 0
  PlainStem (dotted t) = Plain t
  PlainStem (pointed s) = PlainStem s

  pub PlainArgs : Args → Type 0
  PlainArgs nothing = Unit {0}
  PlainArgs (last t) = Plain t
  PlainArgs (more t a) = Plain t × PlainArgs a

unfoldable mutual
  pub size : Tree → ℕ
  size (literal kind) = 1
  size (name n) = 1
  size (paren t) = suc (size t)
  size (prefix op t) = suc (size t)
  size (borrowed t) = suc (size t)
  size (borrowed_mut t) = suc (size t)
  size (binary op l r) = suc (size l + size r)
  size (cast l n) = suc (size l)
  size (bare op) = 1
  size (up_to op r) = suc (size r)
  size (from op l) = suc (size l)
  size (between op l r) = suc (size l + size r)
  size (call t args) = suc (size t + arg_size args)
  size (index t i) = suc (size t + size i)
  size (try t) = suc (size t)
  size (field s kind) = suc (stem_size s)
  size (method s args) = suc (stem_size s + arg_size args)
  size (await s) = suc (stem_size s)
  size (two_fields s) = suc (suc (stem_size s))
  size (lone s) = suc (stem_size s)

  pub stem_size : Stem → ℕ
  stem_size (dotted t) = suc (size t)
  stem_size (pointed s) = suc (suc (stem_size s))

  pub arg_size : Args → ℕ
  arg_size nothing = 1
  arg_size (last t) = suc (size t)
  arg_size (more t a) = suc (size t + arg_size a)

-- the forms on the left spine, and the floats of a stem that end in a dot
unfoldable mutual
  pub spine : Tree → ℕ
  spine (literal kind) = 0
  spine (name n) = 0
  spine (paren t) = 0
  spine (prefix op t) = 0
  spine (borrowed t) = 0
  spine (borrowed_mut t) = 0
  spine (binary op l r) = suc (spine l)
  spine (cast l n) = suc (spine l)
  spine (bare op) = 0
  spine (up_to op r) = 0
  spine (from op l) = 0
  spine (between op l r) = 0
  spine (call t args) = suc (spine t)
  spine (index t i) = suc (spine t)
  spine (try t) = suc (spine t)
  spine (field s kind) = stem_spine s
  spine (method s args) = stem_spine s
  spine (await s) = stem_spine s
  spine (two_fields s) = stem_spine s
  spine (lone s) = 0

  pub stem_spine : Stem → ℕ
  stem_spine (dotted t) = suc (spine t)
  stem_spine (pointed s) = stem_spine s

unfoldable pub depth : Stem → ℕ
depth (dotted t) = 0
depth (pointed s) = suc (depth s)

mutual
  unfolding size spine

  pub spine_small : (t : Tree) → spine t < size t
  spine_small (literal kind) = omega arith
  spine_small (name n) = omega arith
  spine_small (paren t) = omega arith
  spine_small (prefix op t) = omega arith
  spine_small (borrowed t) = omega arith
  spine_small (borrowed_mut t) = omega arith
  spine_small (binary op l r) = omega (arith, spine_small l)
  spine_small (cast l n) = omega (arith, spine_small l)
  spine_small (bare op) = omega arith
  spine_small (up_to op r) = omega arith
  spine_small (from op l) = omega arith
  spine_small (between op l r) = omega arith
  spine_small (call t args) = omega (arith, spine_small t)
  spine_small (index t i) = omega (arith, spine_small t)
  spine_small (try t) = omega (arith, spine_small t)
  spine_small (field s kind) = omega (arith, stem_small s)
  spine_small (method s args) = omega (arith, stem_small s)
  spine_small (await s) = omega (arith, stem_small s)
  spine_small (two_fields s) = omega (arith, stem_small s)
  spine_small (lone s) = omega arith

  stem_small : (s : Stem) → stem_spine s ≤ stem_size s
  stem_small (dotted t) = omega (arith, spine_small t)
  stem_small (pointed s) = omega (arith, stem_small s)

pub depth_small : (s : Stem) → depth s < stem_size s
unfolding depth size
depth_small (dotted t) = omega arith
depth_small (pointed s) = omega (arith, depth_small s)

pub some_args : (a : Args) → 1 ≤ arg_size a
unfolding size
some_args nothing = omega arith
some_args (last t) = omega arith
some_args (more t a) = omega arith

pub some_size : (t : Tree) → 1 ≤ size t
some_size t = omega (arith, spine_small t)

-- what may follow an expression read at b; what may follow a tree, whose outermost form reads its last part at `limit`
abbrev pub NoPostfix : ℕ → Type 0
NoPostfix h = (eqb h L_PAREN ≡ false) × (eqb h L_BRACK ≡ false) × (eqb h QUESTION ≡ false) × (eqb h DOT ≡ false)

abbrev pub Weak : ℕ → List Leaf → Type 0
Weak b r = (eqb (head_of r) COLON2 ≡ false) × NoPostfix (head_of r) × (power (head_of r) < b)

unfoldable pub limit : Tree → ℕ
limit (literal kind) = 0
limit (name n) = 0
limit (paren t) = 0
limit (prefix op t) = 255
limit (borrowed t) = 255
limit (borrowed_mut t) = 255
limit (binary op l r) = right_power op
limit (cast l n) = 13
limit (bare op) = 0
limit (up_to op r) = 0
limit (from op l) = 0
limit (between op l r) = 0
limit (call t args) = 0
limit (index t i) = 0
limit (try t) = 0
limit (field s kind) = 0
limit (method s args) = 0
limit (await s) = 0
limit (two_fields s) = 0
limit (lone s) = 0

pub record After (t : Tree) (r : List Leaf) : Type 0 where
  pub colons : eqb (head_of r) COLON2 ≡ false
  pub named : field_name t ≡ IDENT → eqb (head_of r) L_PAREN ≡ false
  pub weak : 5 ≤ rank t → NoPostfix (head_of r) × (power (head_of r) < limit t)

-- one of a list: P of each gives P of it
module _ (P : ℕ → Type 0) (k : ℕ) where
  one_go : (x : ℕ) (f : Unit {0} → Bool) (b : Bool) → eqb k x ≡ b → whether b (λ _. true) f ≡ true → P x → (f tt ≡ true → P k) → P k
  unfolding whether
  one_go x f true q h p g = subst P (sym (eqb-true k x q)) p
  one_go x f false q h p g = g h

  by_one : (x : ℕ) (f : Unit {0} → Bool) → whether (eqb k x) (λ _. true) f ≡ true → P x → (f tt ≡ true → P k) → P k
  by_one x f h p g = one_go x f (eqb k x) refl h p g

  pub by_literal : holds k literals ≡ true → P INT_NUMBER → P FLOAT_NUMBER → P STRING → P TRUE_KW → P FALSE_KW → P k
  unfolding holds
  by_literal h a b c d e = by_one INT_NUMBER _ h a (λ h. by_one FLOAT_NUMBER _ h b (λ h. by_one STRING _ h c (λ h. by_one TRUE_KW _ h d (λ h. by_one FALSE_KW _ h e (λ h. absurd (false≢true h))))))

  pub by_prefix : holds k prefixes ≡ true → P STAR → P BANG → P MINUS → P k
  unfolding holds
  by_prefix h a b c = by_one STAR _ h a (λ h. by_one BANG _ h b (λ h. by_one MINUS _ h c (λ h. absurd (false≢true h))))

  pub by_name : holds k names ≡ true → P IDENT → P INT_NUMBER → P k
  unfolding holds
  by_name h a b = by_one IDENT _ h a (λ h. by_one INT_NUMBER _ h b (λ h. absurd (false≢true h)))

-- how an expression begins: neither with `)` nor with `mut`
abbrev pub Begins : ℕ → Type 0
Begins h = (eqb h R_PAREN ≡ false) × (eqb h MUT_KW ≡ false)

begin_append : (a b c : List Leaf) → Begins (head_of (a ++ (b ++ c))) → Begins (head_of ((a ++ b) ++ c))
begin_append a b c h = subst (λ (l : List Leaf). Begins (head_of l)) (sym (append_assoc a b c)) h

mutual
  unfolding leaves path Grouped Plain

  pub begins : (t : Tree) → Plain t → Grouped t → (r : List Leaf) → Begins (head_of (leaves t ++ r))
  begins (literal kind) p g r = by_literal Begins kind g (refl, refl) (refl, refl) (refl, refl) (refl, refl) (refl, refl)
  begins (name n) p g r = (refl, refl)
  begins (paren t) p g r = (refl, refl)
  begins (prefix op t) p g r = by_prefix Begins op g.0 (refl, refl) (refl, refl) (refl, refl)
  begins (borrowed t) p g r = (refl, refl)
  begins (borrowed_mut t) p g r = (refl, refl)
  begins (binary op l s) p g r = begin_append (leaves l) _ r (begins l p.0 g.3 _)
  begins (cast l n) p g r = begin_append (leaves l) _ r (begins l p g.1 _)
  begins (bare op) p g r = absurd p
  begins (up_to op t) p g r = absurd p
  begins (from op l) p g r = absurd p
  begins (between op l s) p g r = absurd p
  begins (call t args) p g r = begin_append (leaves t) _ r (begins t p.0 g.2 _)
  begins (index t i) p g r = begin_append (leaves t) _ r (begins t p.0 g.1 _)
  begins (try t) p g r = begin_append (leaves t) _ r (begins t p g.1 _)
  begins (field s kind) p g r = begin_append (stem_leaves s) _ r (stem_begins s p g.1 _)
  begins (method s args) p g r = begin_append (stem_leaves s) _ r (stem_begins s p.0 g.0 _)
  begins (await s) p g r = begin_append (stem_leaves s) _ r (stem_begins s p g _)
  begins (two_fields s) p g r = begin_append (stem_leaves s) _ r (stem_begins s p g _)
  begins (lone s) p g r = absurd p

  stem_begins : (s : Stem) → PlainStem s → GroupedStem s → (r : List Leaf) → Begins (head_of (stem_leaves s ++ r))
  stem_begins (dotted t) p g r = begin_append (leaves t) _ r (begins t p g.1 _)
  stem_begins (pointed s) p g r = begin_append (stem_leaves s) _ r (stem_begins s p g _)

-- P of each token among leaves
module _ (P : ℕ → Type 0) where
  abbrev pub Each : List Leaf → Type 0
  Each [] = Unit {0}
  Each (tok k ∷ l) = P k × Each l
  Each (float d ∷ l) = Each l

  pub each_left : (l m : List Leaf) → Each (l ++ m) → Each l
  each_left [] m f = tt
  each_left (tok k ∷ l) m f = (f.0, each_left l m f.1)
  each_left (float d ∷ l) m f = each_left l m f

  pub each_right : (l m : List Leaf) → Each (l ++ m) → Each m
  each_right [] m f = f
  each_right (tok k ∷ l) m f = each_right l m f.1
  each_right (float d ∷ l) m f = each_right l m f
