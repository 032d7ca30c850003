-- The glued-token fact, once for width 2 and 3: presence as it is computed from a row is what "its parts follow one another" says.
-- By the cases of the tests. Assumes nothing.
use mathlib.Core.Path.{◌≡◌, refl, sym, ap, ◌∙◌}
use mathlib.Core.Bool.{Bool, true, false}
use mathlib.Core.List.{[], ◌∷◌}
use Prim.Native.Nat.{ℕ, ◌+◌, ◌<◌, ◌≤◌}
use native.Mathlib.Omega.{arith}
use lib.Dec.{eqb}
use lib.ListN.{length}
use Rattle.base.specs.Base.{whether, bound}
use Rattle.input.specs.SyntaxKind.{MINUSEQ, SHREQ}
use Rattle.input.specs.Input.{Tokens, joint_at, stands, stands_joint, follow, row_of, row_parts, is_glued, present, width_of, width_limit}
use Rattle.input.specs.declared.Glued.{Glued}
use Rattle.input.proofs.Laws.{both_true, glued_bounds, stands_says, parts_glued, parts_raw, raw_width, width_bounds, width_limit_lem}
use Rattle.input.proofs.Table.{Third, wide_two, wide_three, row_of_glued}

unfoldable pub present_row : Tokens → ℕ → Glued → Bool
present_row ts at row =
    whether (stands_joint ts at row.first)
    (λ _. whether (eqb row.width.0 2)
    (λ _. stands ts (at + 1) row.second)
    (λ _. whether (stands_joint ts (at + 1) row.second) (λ _. stands ts (at + 2) row.third) (λ _. false)))
    (λ _. false)

-- the first of several parts
joint_first : (ts : Tokens) (at a : ℕ) (f : Unit {0} → Bool) → whether (stands_joint ts at a) f (λ _. false) ≡ whether (stands ts at a) (λ _. whether (eqb (joint_at ts at) 1) f (λ _. false)) (λ _. false)
unfolding stands_joint bound whether
joint_first ts at a f = go (stands ts at a)
  where
    go : (b : Bool) → whether (whether b (λ _. eqb (joint_at ts at) 1) (λ _. false)) f (λ _. false) ≡ whether b (λ _. whether (eqb (joint_at ts at) 1) f (λ _. false)) (λ _. false)
    go true = refl
    go false = refl

pub present_row_lem : (ts : Tokens) (at : ℕ) (row : Glued) → present_row ts at row ≡ follow ts at (row_parts row)
unfolding present_row row_parts follow whether
present_row_lem ts at row = joint_first ts at row.first _ ∙ go (eqb row.width.0 2)
  where
    go : (b : Bool) → whether (stands ts at row.first) (λ _. whether (eqb (joint_at ts at) 1) (λ _. whether b (λ _. stands ts (at + 1) row.second) (λ _. whether (stands_joint ts (at + 1) row.second) (λ _. stands ts (at + 2) row.third) (λ _. false))) (λ _. false)) (λ _. false) ≡ follow ts at (whether b (λ _. row.first ∷ row.second ∷ []) (λ _. row.first ∷ row.second ∷ row.third ∷ []))
    go true = refl
    go false = let e : at + 1 + 1 ≡ at + 2 = omega arith in rw (e, joint_first)

-- what the code computes: each ends in `out ≡ ..`, from the answers of the calls
pub is_parts : (ts : Tokens) (at : ℕ) (row : Glued) {out : Bool} → out ≡ present_row ts at row → out ≡ follow ts at (row_parts row)
is_parts ts at row h = h ∙ present_row_lem ts at row

pub is_present : (ts : Tokens) (at kind : ℕ) {b out : Bool} {row : Glued} → b ≡ is_glued kind → b ≡ true → row ≡ row_of kind → out ≡ follow ts at (row_parts row) → out ≡ present ts at kind
unfolding present
is_present ts at kind p q r h = h ∙ ap (λ z. follow ts at (row_parts z)) r ∙ ap (follow ts at) (sym (parts_glued kind (sym p ∙ q)))

pub is_stood : (ts : Tokens) (at kind : ℕ) {b out : Bool} → b ≡ is_glued kind → b ≡ false → out ≡ stands ts at kind → out ≡ present ts at kind
unfolding present follow
is_stood ts at kind p q h = h ∙ ap (follow ts at) (sym (parts_raw kind (sym p ∙ q)))

pub is_row : (kind : ℕ) {b : Bool} → b ≡ is_glued kind → b ≡ true → (MINUSEQ ≤ kind) × (kind ≤ SHREQ)
is_row kind p q = glued_bounds kind (sym p ∙ q)

pub is_inside : (ts : Tokens) (at kind : ℕ) {b : Bool} → b ≡ stands_joint ts at kind → b ≡ true → at < length ts.kinds
unfolding stands_joint
is_inside ts at kind p q = (stands_says ts at kind (both_true (stands ts at kind) _ (sym p ∙ q)).0).inside

row_width : (row : Glued) → Third row → row.width.0 ≡ length (row_parts row)
unfolding row_parts whether
row_width row (wide_two w t) = rw w
row_width row (wide_three w t) = rw w

pub is_width : (kind : ℕ) {b : Bool} {row : Glued} → b ≡ is_glued kind → b ≡ true → row ≡ row_of kind → row.width.0 ≡ width_of kind
unfolding width_of
is_width kind p q r =
    let g : is_glued kind ≡ true = sym p ∙ q in
    ap (λ z. z.width.0) r ∙ row_width (row_of kind) (row_of_glued kind g).third_is ∙ ap length (sym (parts_glued kind g))

pub is_single : (kind : ℕ) {b : Bool} → b ≡ is_glued kind → b ≡ false → 1 ≡ width_of kind
is_single kind p q = sym (raw_width kind (sym p ∙ q))

pub is_limited : (kind w : ℕ) → w ≡ width_of kind → (w ≡ width_of kind) × ((1 ≤ w) × (w ≤ width_limit))
is_limited kind w e = (e, (omega (arith, width_bounds kind), rw e (width_limit_lem kind)))
