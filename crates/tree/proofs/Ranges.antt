-- In a list without ranges no leaf is a range operator, so a tree over it that groups as the table says has none, and it is the only one over its leaves. Assumes nothing.
use mathlib.Core.Path.{◌≡◌, sym, subst, ap, ◌∙◌}
use mathlib.Core.List.{List, [], ◌∷◌}
use mathlib.Core.Bool.{true, false≢true}
use Prim.Native.Nat.{ℕ, ◌+◌}
use borrow.Author.Tests.{eqb-true}
use Rattle.base.proofs.Cases.{whether_by}
use Rattle.input.specs.SyntaxKind.{DOT2, DOT2EQ}
use Rattle.input.specs.Input.{Tokens, present, width_of}
use Rattle.tree.specs.Tree.{Tree, literal, name, paren, prefix, borrowed, borrowed_mut, binary, cast, bare, up_to, from, between, call, index, try, field, method, await, two_fields, lone, Stem, dotted, pointed, Args, nothing, last, more, Leaf, tok, float, leaves, stem_leaves, arg_leaves, Covers}
use Rattle.tree.specs.Table.{holds}
use Rattle.tree.specs.Grouped.{ranges, Grouped, GroupedStem, GroupedArgs, NoRanges}
use Rattle.tree.specs.Statement.{Over, Only}
use Rattle.tree.proofs.Operators.{no_dots}
use Rattle.tree.proofs.Measures.{Plain, PlainStem, PlainArgs, Each, each_left, each_right}
use Rattle.tree.proofs.Unique.{plain_unique}

-- no leaf is a range operator
abbrev NoRange : ℕ → Type 0
NoRange k = holds k ranges ≡ true → ⊥

abbrev Free : List Leaf → Type 0
Free = Each NoRange

no_range : (ts : Tokens) (p k : ℕ) → NoRanges ts → present ts p k ≡ true → holds k ranges ≡ true → ⊥
unfolding holds
no_range ts p k n h =
    whether_by (λ z. z ≡ true → ⊥) _ _ _ (λ e _. false≢true (sym (n p) ∙ ap (present ts p) (sym (eqb-true k DOT2 e)) ∙ h))
    (λ _. whether_by (λ z. z ≡ true → ⊥) _ _ _ (λ e _. no_dots ts p (n p) (ap (present ts p) (sym (eqb-true k DOT2EQ e)) ∙ h)) (λ _ z. false≢true z))

covers_free : (ts : Tokens) → NoRanges ts → (p q : ℕ) (l : List Leaf) → Covers ts p l q → Free l
unfolding Covers
covers_free ts n p q [] c = tt
covers_free ts n p q (tok k ∷ l) c = (no_range ts p k n c.0, covers_free ts n (p + width_of k) q l c.1)
covers_free ts n p q (float d ∷ l) c = covers_free ts n (p + 1) q l c.2

mutual
  unfolding leaves Grouped Plain

  plain_of : (t : Tree) → Grouped t → Free (leaves t) → Plain t
  plain_of (literal kind) g f = tt
  plain_of (name n) g f = tt
  plain_of (paren t) g f = plain_of t g (each_left NoRange (leaves t) _ f.1)
  plain_of (prefix op t) g f = plain_of t g.2 f.1
  plain_of (borrowed t) g f = plain_of t g.1 f.1
  plain_of (borrowed_mut t) g f = plain_of t g.1 f.1.1
  plain_of (binary op l r) g f = (plain_of l g.3 (each_left NoRange (leaves l) _ f), plain_of r g.4 (each_right NoRange (leaves l) _ f).1)
  plain_of (cast l n) g f = plain_of l g.1 (each_left NoRange (leaves l) _ f)
  plain_of (bare op) g f = f.0 g
  plain_of (up_to op r) g f = f.0 g.0
  plain_of (from op l) g f = (each_right NoRange (leaves l) _ f).0 g.0
  plain_of (between op l r) g f = (each_right NoRange (leaves l) _ f).0 g.0
  plain_of (call t args) g f = (plain_of t g.2 (each_left NoRange (leaves t) _ f), args_plain args g.3 (each_left NoRange (arg_leaves args) _ (each_right NoRange (leaves t) _ f).1))
  plain_of (index t i) g f = (plain_of t g.1 (each_left NoRange (leaves t) _ f), plain_of i g.2 (each_left NoRange (leaves i) _ (each_right NoRange (leaves t) _ f).1))
  plain_of (try t) g f = plain_of t g.1 (each_left NoRange (leaves t) _ f)
  plain_of (field s kind) g f = stem_plain s g.1 (each_left NoRange (stem_leaves s) _ f)
  plain_of (method s args) g f = (stem_plain s g.0 (each_left NoRange (stem_leaves s) _ f), args_plain args g.1 (each_left NoRange (arg_leaves args) _ (each_right NoRange (stem_leaves s) _ f).1.1))
  plain_of (await s) g f = stem_plain s g (each_left NoRange (stem_leaves s) _ f)
  plain_of (two_fields s) g f = stem_plain s g (each_left NoRange (stem_leaves s) _ f)
  plain_of (lone s) g f = g

  stem_plain : (s : Stem) → GroupedStem s → Free (stem_leaves s) → PlainStem s
  stem_plain (dotted t) g f = plain_of t g.1 (each_left NoRange (leaves t) _ f)
  stem_plain (pointed s) g f = stem_plain s g (each_left NoRange (stem_leaves s) _ f)

  args_plain : (a : Args) → GroupedArgs a → Free (arg_leaves a) → PlainArgs a
  args_plain nothing g f = tt
  args_plain (last t) g f = plain_of t g f
  args_plain (more t a) g f = (plain_of t g.0 (each_left NoRange (leaves t) _ f), args_plain a g.1 (each_right NoRange (leaves t) _ f).1)

pub only_tree : (ts : Tokens) (consumed : ℕ) (t : Tree) → NoRanges ts → Over ts consumed t → Grouped t → Only t
only_tree ts consumed t n o g t' e g' =
    let f : Free (leaves t) = covers_free ts n 0 consumed (leaves t) o.covers in
    plain_unique t' t (plain_of t' g' (subst Free (sym e) f)) (plain_of t g f) g' g e
