-- What a rule takes is at hand: a raw kind that was looked at is present, and so is the operator that was found. By the definition of presence, one case for each operator. Assumes nothing.
use mathlib.Core.Path.{◌≡◌, refl, sym, ap, subst, ◌∙◌}
use mathlib.Core.List.{List, [], ◌∷◌}
use mathlib.Core.Bool.{Bool, true, false}
use Prim.Native.Nat.{ℕ, ◌+◌, ◌≤◌, ◌<◌}
use native.Mathlib.Omega.{arith}
use lib.ListN.{length, get_or-eq_default}
use lib.Dec.{ltb, leb, eqb}
use borrow.Author.Tests.{ltb-true, ltb-false, leb-true, leb-false, le-leb, eqb-true}
use Rattle.base.specs.Base.{whether}
use Rattle.base.proofs.Cases.{whether_by}
use Rattle.input.specs.SyntaxKind.{IDENT, INT_NUMBER, QUESTION, MINUS, STAR, BANG, MINUSEQ, SHREQ}
use Rattle.input.specs.Input.{Tokens, kind_at, stands, is_glued, is_raw, is_kind, parts_of, width_of, follow, present}
use Rattle.operators.specs.declared.Side.{Side}
use Rattle.operators.specs.declared.Side.TheVariants.{Left, Right}
use Rattle.operators.specs.declared.Op.{Op}
use Rattle.operators.specs.TokenSet.{among, first_tokens, is_first, is_prefix, is_field_name}
use Rattle.operators.specs.Strength.{current_op, on_side, right_of}
use Rattle.input.proofs.Laws.{both_true}
use Rattle.operators.specs.Longest.{operators}
use Rattle.operators.proofs.Longest.{the_one_at_hand}
use Rattle.facts.proofs.Does.{clash}

-- raw kinds and glued ones may be taken, and a raw kind is its own part
pub raw_kind : (kind : ℕ) → 1 ≤ kind → kind ≤ 29 → is_kind kind ≡ true
unfolding is_kind is_raw
raw_kind kind l h =
    whether_by (λ b. b ≡ true) _ _ _ (λ _. refl)
    (λ q. absurd (clash (whether_by (λ b. b ≡ true) (leb IDENT kind) (λ _. leb kind QUESTION) (λ _. false) (λ _. le-leb kind QUESTION h) (λ p. absurd (omega (arith, leb-false IDENT kind p)))) q))

pub raw_part : (kind : ℕ) → kind ≤ 29 → parts_of kind ≡ kind ∷ []
unfolding parts_of is_glued
raw_part kind h =
    whether_by (λ l. l ≡ kind ∷ []) _ _ _
    (λ q. absurd (clash q (whether_by (λ b. b ≡ false) (leb MINUSEQ kind) (λ _. leb kind SHREQ) (λ _. false) (λ p. absurd (omega (arith, leb-true MINUSEQ kind p))) (λ _. refl))))
    (λ _. refl)

pub raw_wide : (kind : ℕ) → kind ≤ 29 → width_of kind ≡ 1
unfolding width_of
raw_wide kind h = ap length (raw_part kind h)

pub glued_kind : (kind : ℕ) → 40 ≤ kind → kind ≤ 63 → is_kind kind ≡ true
unfolding is_kind is_glued
glued_kind kind l h =
    whether_by (λ b. b ≡ true) _ _ _ (λ _. refl)
    (λ _. whether_by (λ b. b ≡ true) (leb MINUSEQ kind) (λ _. leb kind SHREQ) (λ _. false) (λ _. le-leb kind SHREQ h) (λ p. absurd (omega (arith, leb-false MINUSEQ kind p))))

-- what holds of each of a list holds of one of them
holds : (ℕ → Bool) → List ℕ → Bool
holds f [] = true
holds f (x ∷ l) = whether (f x) (λ _. holds f l) (λ _. false)

among_holds : (f : ℕ → Bool) (kind : ℕ) (l : List ℕ) → holds f l ≡ true → among kind l ≡ true → f kind ≡ true
unfolding holds
among_holds f kind [] h q = absurd (clash q refl)
among_holds f kind (x ∷ l) h q =
    let b = both_true (f x) (λ _. holds f l) h in
    whether_by (λ b. b ≡ true → f kind ≡ true) (eqb kind x) _ _ (λ p _. subst (λ (k : ℕ). f k ≡ true) (sym (eqb-true kind x p)) b.0) (λ _ r. among_holds f kind l b.1 r) q

-- an operator with a strength is present, under a kind that may be taken
pub record Standing (ts : Tokens) (at : ℕ) (op : Op) : Type 0 where
  pub stands_so : 1 ≤ op.strength → (is_kind op.kind ≡ true) × (present ts at op.kind ≡ true)

module _ (ts : Tokens) (at : ℕ) where
  -- a token stands where the kind is not EOF
  pub at_hand : {kind : ℕ} → kind_at ts at ≡ kind → 1 ≤ kind → at < length ts.kinds
  at_hand {kind} q l = go (ltb at (length ts.kinds)) refl
    where
      go : (b : Bool) → ltb at (length ts.kinds) ≡ b → at < length ts.kinds
      go true p = ltb-true at (length ts.kinds) p
      go false p = let z : kind_at ts at ≡ 0 = get_or-eq_default ts.kinds 0 (ltb-false at (length ts.kinds) p) in absurd (omega arith)

  -- a raw kind that was looked at is present
  pub raw_stands : (kind : ℕ) → eqb (kind_at ts at) kind ≡ true → 1 ≤ kind → stands ts at kind ≡ true
  unfolding stands
  raw_stands kind q l = whether_by (λ b. b ≡ true) _ _ _ (λ _. q) (λ p. absurd (omega (arith, at_hand (eqb-true _ kind q) l, ltb-false at (length ts.kinds) p)))

  pub raw_present : (kind : ℕ) → kind ≤ 29 → eqb (kind_at ts at) kind ≡ true → 1 ≤ kind → present ts at kind ≡ true
  unfolding present follow
  raw_present kind h q l = ap (λ (parts : List ℕ). follow ts at parts) (raw_part kind h) ∙ raw_stands kind q l

  abbrev Stands : Op → Type 0
  Stands op = Standing ts at op

  -- what is at hand is one of 01's operators, and present
  pub op_stands : Stands (current_op ts at)
  unfolding holds is_kind is_raw is_glued whether
  op_stands = record { stands_so = λ l. let h : _ = the_one_at_hand ts at l in (among_holds is_kind (current_op ts at).kind operators refl h.listed, h.is_present) }

-- the right operand is read at a strength, too
right_go : (x : Side) (n : ℕ) → 1 ≤ n → 1 ≤ on_side x (n + 1) n
unfolding on_side
right_go Left n l = omega arith
right_go Right n l = l

pub right_low : (op : Op) → 1 ≤ op.strength → 1 ≤ right_of op
unfolding right_of
right_low op l = right_go op.side op.strength l

-- a kind among raw kinds is one
abbrev Raws : List ℕ → Type 0
Raws [] = Unit {0}
Raws (x ∷ l) = (1 ≤ x) × (x ≤ 29) × Raws l

among_raw : (kind : ℕ) (l : List ℕ) → Raws l → among kind l ≡ true → (1 ≤ kind) × (kind ≤ 29)
among_raw kind [] h q = absurd (clash q refl)
among_raw kind (x ∷ l) h q = whether_by (λ b. b ≡ true → (1 ≤ kind) × (kind ≤ 29)) (eqb kind x) _ _ (λ p _. let z = eqb-true kind x p in (omega (arith, h.0), omega (arith, h.1))) (λ _. among_raw kind l h.2) q

pub first_raw : (kind : ℕ) → is_first kind ≡ true → (1 ≤ kind) × (kind ≤ 29)
unfolding is_first
first_raw kind q = among_raw kind first_tokens (omega arith) q

pub field_raw : (kind : ℕ) → is_field_name kind ≡ true → (1 ≤ kind) × (kind ≤ 29)
unfolding is_field_name
field_raw kind q = among_raw kind (IDENT ∷ INT_NUMBER ∷ []) (omega arith) q

pub prefix_raw : (kind : ℕ) → is_prefix kind ≡ true → (1 ≤ kind) × (kind ≤ 29)
unfolding is_prefix
prefix_raw kind q = among_raw kind (STAR ∷ BANG ∷ MINUS ∷ []) (omega arith) q
