-- The table of glued tokens: the rule of each row, and that no two rows have the same parts.
-- By one test of the whole table that antt computes, and a law that turns it into the fact at each row. Assumes nothing.
use mathlib.Core.Path.{◌≡◌, refl, ap}
use mathlib.Core.Bool.{Bool, true, false}
use mathlib.Core.List.{List, [], ◌∷◌}
use mathlib.Core.Logic.{⊎_elim}
use Prim.Native.Nat.{ℕ, zero, suc, ◌+◌, ◌-◌, ◌*◌, ◌<◌}
use native.Mathlib.Omega.{arith}
use lib.Dec.{eqb}
use lib.ListN.{length, get_or}
use borrow.Author.Tests.{eqb-true, eq-eqb}
use Rattle.base.specs.Base.{whether}
use Rattle.input.specs.SyntaxKind.{EOF, MINUSEQ}
use Rattle.input.specs.Input.{is_raw, is_glued, glued_table, no_row, row_of, row_parts}
use Rattle.input.specs.declared.Glued.{Glued}
use Rattle.input.proofs.Laws.{both_true, true_or_false, glued_bounds}

both : Bool → Bool → Bool
both a b = whether a (λ _. b) (λ _. false)

-- a test passes at each entry of a list and its place, counted from i
every : {A : Type 0} → (ℕ → A → Bool) → ℕ → List A → Bool
every f i [] = true
every f i (x ∷ xs) = whether (f i x) (λ _. every f (suc i) xs) (λ _. false)

every_from : {A : Type 0} (f : ℕ → A → Bool) (d : A) (xs : List A) (i : ℕ) → every f i xs ≡ true → (k : ℕ) → k < length xs → f (i + k) (get_or xs k d) ≡ true
unfolding every
every_from f d [] i t k h = absurd (omega arith)
every_from f d (x ∷ xs) i t zero h = let e : i + 0 ≡ i = omega arith in rw e (both_true (f i x) _ t).0
every_from f d (x ∷ xs) i t (suc k) h =
    let e : i + suc k ≡ suc i + k = omega arith in
    rw e (every_from f d xs (suc i) (both_true (f i x) _ t).1 k (omega arith))

every_at : {A : Type 0} (f : ℕ → A → Bool) (d : A) (xs : List A) → every f 0 xs ≡ true → (k : ℕ) → k < length xs → f k (get_or xs k d) ≡ true
every_at f d xs t k h = let e : 0 + k ≡ k = omega arith in rw e at (every_from f d xs 0 t k h)

-- the rule of a row, as a test
third_right : Glued → Bool
third_right row = whether (eqb row.width.0 2) (λ _. eqb row.third EOF) (λ _. both (eqb row.width.0 3) (is_raw row.third))

row_right : ℕ → Glued → Bool
row_right i row = both (eqb row.kind (MINUSEQ + i)) (both (both (is_raw row.first) (is_raw row.second)) (third_right row))

rows_right : every row_right 0 glued_table ≡ true
unfolding every row_right third_right both glued_table is_raw whether
rows_right = refl

-- the third part of a row: EOF exactly where the width is 2
pub data Third (row : Glued) : Type 0 where
  wide_two : row.width.0 ≡ 2 → row.third ≡ EOF → Third row
  wide_three : row.width.0 ≡ 3 → is_raw row.third ≡ true → Third row

-- the row at a place has the kind of that place, width 2 or 3, and raw parts
pub record Right (i : ℕ) (row : Glued) : Type 0 where
  pub kind_is : row.kind ≡ MINUSEQ + i
  pub first_raw : is_raw row.first ≡ true
  pub second_raw : is_raw row.second ≡ true
  pub third_is : Third row

third_says : (row : Glued) → third_right row ≡ true → Third row
unfolding third_right both whether
third_says row h = ⊎_elim (λ q. wide_two (eqb-true _ _ q) (eqb-true _ _ (rw q at h))) (λ q. let t = both_true (eqb row.width.0 3) (λ _. is_raw row.third) (rw q at h) in wide_three (eqb-true _ _ t.0) t.1) (true_or_false (eqb row.width.0 2))

right_says : (i : ℕ) (row : Glued) → row_right i row ≡ true → Right i row
unfolding row_right both
right_says i row h =
    let t = both_true (eqb row.kind (MINUSEQ + i)) _ h in
    let u = both_true _ (λ _. third_right row) t.1 in
    let v = both_true (is_raw row.first) (λ _. is_raw row.second) u.0 in
    record { kind_is = eqb-true _ _ t.0; first_raw = v.0; second_raw = v.1; third_is = third_says row u.1 }

-- "The 24 glued tokens are one table of rows (kind, raw parts): 40 to 63 in order"
pub table_right : (i : ℕ) → i < 24 → Right i (get_or glued_table i no_row)
unfolding glued_table
table_right i h = right_says i _ (every_at row_right no_row glued_table rows_right i h)

pub row_of_glued : (kind : ℕ) → is_glued kind ≡ true → Right (kind - MINUSEQ) (row_of kind)
unfolding row_of
row_of_glued kind h = table_right (kind - MINUSEQ) (omega (arith, glued_bounds kind h))

-- the parts of a row as one number
key : List ℕ → ℕ
key parts = get_or parts 0 0 + 32 * (get_or parts 1 0 + 32 * get_or parts 2 0)

apart : ℕ → Glued → ℕ → Glued → Bool
apart i row j other = whether (eqb (key (row_parts row)) (key (row_parts other))) (λ _. eqb i j) (λ _. true)

rows_apart : every (λ i row. every (apart i row) 0 glued_table) 0 glued_table ≡ true
unfolding every apart key glued_table row_parts whether
rows_apart = refl

-- no two rows have the same parts
pub parts_differ : (i j : ℕ) → i < 24 → j < 24 → row_parts (get_or glued_table i no_row) ≡ row_parts (get_or glued_table j no_row) → i ≡ j
unfolding glued_table apart whether
parts_differ i j p q e =
    let t = every_at (apart i (get_or glued_table i no_row)) no_row glued_table (every_at (λ i row. every (apart i row) 0 glued_table) no_row glued_table rows_apart i p) j q in
    eqb-true i j (rw (eq-eqb _ _ (ap key e)) at t)
