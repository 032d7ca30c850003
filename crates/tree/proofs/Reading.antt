-- What an answer says: its events are the shape of a tree, the tree's leaves are the tokens taken, and in a list without ranges the tree groups as the table says. A reading never yields nothing without an error. Assumes nothing.
use mathlib.Core.Path.{◌≡◌}
use mathlib.Core.List.{List, ◌++◌}
use mathlib.Core.Bool.{true}
use Prim.Native.Nat.{ℕ, ◌+◌, ◌≤◌, ◌<◌}
use lib.Dec.{eqb}
use Rattle.input.specs.SyntaxKind.{IDENT, L_PAREN}
use Rattle.input.specs.Input.{Tokens, kind_at}
use Rattle.event.specs.Event.{Event}
use Rattle.parser.specs.Prog.{Prog, give, then, Perhaps, some, none}
use Rattle.parser.specs.declared.CompletedMarker.{CompletedMarker}
use Rattle.operators.specs.declared.Op.{Op}
use Rattle.operators.specs.Strength.{current_op}
use Rattle.atoms.specs.Atom.{Node}
use Rattle.grammar.specs.Expressions.{Rule, yields, given, anyway}
use Rattle.tree.specs.Tree.{Tree, leaves, Covers}
use Rattle.tree.specs.Grouped.{rank, field_name, Grouped, NoRanges, NoOperator, NoPrefix}
use Rattle.tree.proofs.Shape.{Shape, ext, code, shape, whole, outer}
use Rattle.tree.proofs.Wp.{Post, Wp, after}
use Rattle.tree.proofs.Nodes.{Makes}
use Rattle.tree.proofs.Operators.{floor}

-- an expression read at b up to q: it holds as tightly as b asks, and the operator behind it is weaker
abbrev pub Ends : Tokens → ℕ → ℕ → Tree → Type 0
Ends ts b q t = (rank t ≤ floor b) × ((current_op ts q).strength < b)

-- the left side of the operator loop: the operator behind it may take it
abbrev pub Takes : Op → Tree → Type 0
Takes op t = (rank t + op.strength ≤ 18) × (op.strength ≡ 1 → rank t ≤ 16)

abbrev pub Ready : Tokens → ℕ → ℕ → Tree → Type 0
Ready ts b q t = (rank t ≤ floor b) × Takes (current_op ts q) t

-- an expression, of which C holds where there are no ranges
abbrev pub Expr : Tokens → (ℕ → Tree → Type 0) → List Event → ℕ → Post CompletedMarker
Expr ts C D p m E q = (t : Tree) × Makes ts (whole t) (leaves t) D p m E q × (NoRanges ts → Grouped t × C q t)

-- a left part, to which the reading's own start is extended
abbrev pub Lhs : Tree → Type 0
Lhs t = (sh : Shape) → outer t sh ≡ ext sh

abbrev pub Left : Tokens → (ℕ → Tree → Type 0) → List Event → ℕ → Post CompletedMarker
Left ts C D p m E q = (t : Tree) × Makes ts (shape t) (leaves t) D p m E q × Lhs t × (NoRanges ts → Grouped t × C q t)

-- without an operator of its own; without a prefix either, and no name before a parenthesis, which would be a method's
abbrev pub Tight : ℕ → Tree → Type 0
Tight q t = NoOperator t

abbrev pub Bound : Tokens → ℕ → Tree → Type 0
Bound ts q t = NoPrefix t × (field_name t ≡ IDENT → eqb (kind_at ts q) L_PAREN ≡ true → ⊥)

-- it is there
abbrev pub Some : Post CompletedMarker → Post (Perhaps CompletedMarker)
Some Q (some m) E q = Q m E q
Some Q none E q = ⊥

abbrev pub Reads : Tokens → (ℕ → Rule) → Type 0
Reads ts read = (b : ℕ) → 1 ≤ b → (D : List Event) (p : ℕ) → Wp ts (read b) (Some (Expr ts (Ends ts b) D p)) D p

module _ (ts : Tokens) where
  pub yields_wp : (p : Node) (Q : Post CompletedMarker) (E : List Event) (q : ℕ) → Wp ts p Q E q → Wp ts (yields p) (Some Q) E q
  unfolding yields
  yields_wp p Q E q w = after ts p _ Q (Some Q) E q w (λ m E q h. h)

  some_wp : {A : Type 0} (k : CompletedMarker → Prog A) (j : Prog A) (Q : Post CompletedMarker) (R : Post A) → ((m : CompletedMarker) (E : List Event) (q : ℕ) → Q m E q → Wp ts (k m) R E q) → (a : Perhaps CompletedMarker) (E : List Event) (q : ℕ) → Some Q a E q → Wp ts (elim a as (λ _. Prog A) [ some m ↦ k m | none ↦ j ]) R E q
  some_wp k j Q R f (some m) E q h = f m E q h
  some_wp k j Q R f none E q h = absurd h

  -- goes on with an expression, whatever would come without one
  pub then_some : {A : Type 0} (p : Rule) (k : CompletedMarker → Prog A) (j : Prog A) (Q : Post CompletedMarker) (R : Post A) (E : List Event) (q : ℕ) → Wp ts p (Some Q) E q → ((m : CompletedMarker) (E : List Event) (q : ℕ) → Q m E q → Wp ts (k m) R E q) → Wp ts (then p (elim [ some m ↦ k m | none ↦ j ])) R E q
  then_some p k j Q R E q w f = after ts p _ (Some Q) R E q w (some_wp k j Q R f)

  pub given_wp : (p : Rule) (k : CompletedMarker → Rule) (Q : Post CompletedMarker) (R : Post (Perhaps CompletedMarker)) (E : List Event) (q : ℕ) → Wp ts p (Some Q) E q → ((m : CompletedMarker) (E : List Event) (q : ℕ) → Q m E q → Wp ts (k m) R E q) → Wp ts (given p k) R E q
  unfolding given
  given_wp p k Q R E q w f = then_some p k (give none) Q R E q w f

  -- an operand read at b, and what follows it
  pub operand : {A : Type 0} (read : ℕ → Rule) → Reads ts read → (b : ℕ) → 1 ≤ b → (k : Prog A) (R : Post A) (E : List Event) (q : ℕ)
      → ((t : Tree) (E' : List Event) (q' : ℕ) → E' ≡ E ++ code (whole t) 0 → Covers ts q (leaves t) q' → (NoRanges ts → Grouped t × Ends ts b q' t) → Wp ts k R E' q') → Wp ts (anyway (read b) k) R E q
  unfolding anyway
  operand read reads b l k R E q f = after ts (read b) _ (Some (Expr ts (Ends ts b) E q)) R E q (reads b l E q) go
    where
      go : (a : Perhaps CompletedMarker) (E' : List Event) (q' : ℕ) → Some (Expr ts (Ends ts b) E q) a E' q' → Wp ts k R E' q'
      go (some m) E' q' h = f h.0 E' q' h.1.0 h.1.2 h.2
      go none E' q' h = absurd h
