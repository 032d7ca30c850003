-- The checks of tokens: what the code computes, and the table of refusals 3, 1 and 2, "exactly when" and "first such index".
-- By the "first such index" of Scan, for any run of tokens; a verdict is then unique. Assumes nothing.
use Rattle.std.proofs.Common.{Ok, Err}
use mathlib.Core.Path.{◌≡◌, refl, sym, ◌∙◌}
use mathlib.Core.Bool.{Bool}
use mathlib.Core.List.{List}
use mathlib.Core.Logic.{◌⊎◌, inl, inr, ⊎_elim}
use Prim.Native.Nat.{min, ℕ, ◌+◌, ◌-◌, ◌<◌, ◌≤◌}
use native.Mathlib.Omega.{arith}
use lib.ListN.{length}
use borrow.Author.Tests.{ltb-true, ltb-false}
use Rattle.base.proofs.Laws.{whether_lt, whether_ge, bound_is}
use Rattle.base.proofs.Cases.{whether_by, bound_by}
use Rattle.input.specs.SyntaxKind.{IDENT, QUESTION, BAD_KIND, BAD_JOINT}
use Rattle.input.specs.Input.{Tokens, width_limit, within, is_raw, is_joint, first_off, refusal, bytes_of, ahead}
use Rattle.input.specs.declared.Refusal.{Refusal}
use Rattle.input.specs.Input.{Checked}
use lib.Dec.{ltb}
use Rattle.base.specs.Base.{bound}
use Rattle.input.proofs.Laws.{ahead_left}
use Rattle.input.proofs.Scan.{First, All, first_off_lem, first_same, first_not_all}

-- what the code computes of a run of tokens: each ends in `out ≡ ..`, from the answers of the calls
module _ (ts : Tokens) (at end : ℕ) {out : Checked} where
  pub is_bad_kind : {i : ℕ} → at ≤ end → i ≡ first_off (within IDENT QUESTION) ts.kinds at (end - at) → i < end → out ≡ Err (refusal BAD_KIND i) → out ≡ bytes_of ts at (end - at)
  unfolding bytes_of is_raw
  is_bad_kind {i} le e h r = bound_is _ e (whether_lt _ _ i (at + (end - at)) (omega arith) r)

  pub is_bad_joint : {i j : ℕ} → at ≤ end → i ≡ first_off (within IDENT QUESTION) ts.kinds at (end - at) → end ≤ i → j ≡ first_off (within 0 1) ts.joints at (end - at) → j < end → out ≡ Err (refusal BAD_JOINT j) → out ≡ bytes_of ts at (end - at)
  unfolding bytes_of is_raw is_joint
  is_bad_joint {i} {j} le e h f g r = bound_is _ e (whether_ge _ _ i (at + (end - at)) (omega arith) (bound_is _ f (whether_lt _ _ j (at + (end - at)) (omega arith) r)))

  pub is_fine : {i j : ℕ} → at ≤ end → i ≡ first_off (within IDENT QUESTION) ts.kinds at (end - at) → end ≤ i → j ≡ first_off (within 0 1) ts.joints at (end - at) → end ≤ j → out ≡ Ok tt → out ≡ bytes_of ts at (end - at)
  unfolding bytes_of is_raw is_joint
  is_fine {i} {j} le e h f g r = bound_is _ e (whether_ge _ _ i (at + (end - at)) (omega arith) (bound_is _ f (whether_ge _ _ j (at + (end - at)) (omega arith) r)))

-- 1: "a kind is not 1..29"; 2: "a joint byte is above 1"; each at its "first such index" among k tokens from a position on, 1 before 2
unfoldable pub Run : Tokens → ℕ → ℕ → Checked → Type 0
Run ts at k (Ok _) = All is_raw ts.kinds at k × All is_joint ts.joints at k
Run ts at k (Err r) =
    ((r.number ≡ BAD_KIND) × First is_raw ts.kinds at k r.place) ⊎
    ((r.number ≡ BAD_JOINT) × (All is_raw ts.kinds at k × First is_joint ts.joints at k r.place))

module _ (fine : ℕ → Bool) (l : List ℕ) (at k : ℕ) where
  first_below : first_off fine l at k < at + k → First fine l at k (first_off fine l at k)
  first_below h = ⊎_elim (λ f. f) (λ f. absurd (omega (arith, f.0))) (first_off_lem fine l at k)

  all_else : at + k ≤ first_off fine l at k → All fine l at k
  all_else h = ⊎_elim (λ f. absurd (omega (arith, f.below))) (λ f. f.1) (first_off_lem fine l at k)

pub same_refusal : (r s : Refusal) → r.number ≡ s.number → r.place ≡ s.place → ◌≡◌ {A = Checked} (Err r) (Err s)
same_refusal r s p q = go r.number s.number r.place s.place p q
  where
    go : (a b c d : ℕ) → a ≡ b → c ≡ d → ◌≡◌ {A = Checked} (Err (refusal a c)) (Err (refusal b d))
    go a b c d p q = cc

module _ (ts : Tokens) (at k : ℕ) where
  pub bytes_run : Run ts at k (bytes_of ts at k)
  unfolding Run bytes_of
  bytes_run =
      bound_by (Run ts at k) _ _
      (whether_by (Run ts at k) _ _ _ (λ q. inl (refl, first_below is_raw ts.kinds at k (ltb-true _ _ q))) λ q.
      bound_by (Run ts at k) _ _
      (whether_by (Run ts at k) _ _ _
      (λ r. inr (refl, (all_else is_raw ts.kinds at k (ltb-false _ _ q), first_below is_joint ts.joints at k (ltb-true _ _ r))))
      (λ r. (all_else is_raw ts.kinds at k (ltb-false _ _ q), all_else is_joint ts.joints at k (ltb-false _ _ r)))))

  -- any two verdicts agree
  pub run_same : (a b : Checked) → Run ts at k a → Run ts at k b → a ≡ b
  unfolding Run
  run_same (Ok _) (Ok _) x y = refl
  run_same (Ok _) (Err s) x (inl y) = absurd (first_not_all is_raw ts.kinds at k _ y.1 x.0)
  run_same (Ok _) (Err s) x (inr y) = absurd (first_not_all is_joint ts.joints at k _ y.1.1 x.1)
  run_same (Err r) (Ok _) (inl x) y = absurd (first_not_all is_raw ts.kinds at k _ x.1 y.0)
  run_same (Err r) (Ok _) (inr x) y = absurd (first_not_all is_joint ts.joints at k _ x.1.1 y.1)
  run_same (Err r) (Err s) (inl x) (inl y) = same_refusal r s (x.0 ∙ sym y.0) (first_same is_raw ts.kinds at k _ _ x.1 y.1)
  run_same (Err r) (Err s) (inl x) (inr y) = absurd (first_not_all is_raw ts.kinds at k _ x.1 y.1.0)
  run_same (Err r) (Err s) (inr x) (inl y) = absurd (first_not_all is_raw ts.kinds at k _ y.1 x.1.0)
  run_same (Err r) (Err s) (inr x) (inr y) = same_refusal r s (x.0 ∙ sym y.0) (first_same is_joint ts.joints at k _ _ x.1.1 y.1.1)

-- the tokens looked at from a position on: none, all that are left, or three
module _ (ts : Tokens) (at : ℕ) where
  pub none_ahead : length ts.kinds ≤ at → Ok tt ≡ bytes_of ts at (ahead ts at)
  unfolding Run
  none_ahead h = run_same ts at (ahead ts at) (Ok tt) _ (λ j p q. absurd (omega (arith, ahead_left ts at)), λ j p q. absurd (omega (arith, ahead_left ts at))) (bytes_run ts at (ahead ts at))

  pub ahead_is : ahead ts at ≡ min (length ts.kinds - at) width_limit
  unfolding ahead bound
  ahead_is =
      whether_by (λ n. n ≡ min (length ts.kinds - at) width_limit) (ltb (length ts.kinds - at) width_limit) _ _
      (λ q. omega (arith, ltb-true _ _ q)) (λ q. omega (arith, ltb-false _ _ q))
