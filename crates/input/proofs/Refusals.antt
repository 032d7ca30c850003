-- The table of refusals for a whole token list: 3, then 1, then 2, each "exactly when", each at its "first such index"; and what an accepted list is.
-- By the verdicts of Checks: the list has one, and any two agree. Assumes nothing.
use Rattle.std.proofs.Common.{Ok, Err}
use mathlib.Core.Path.{◌≡◌, refl, sym, subst, ◌∙◌}
use mathlib.Core.Logic.{◌⊎◌, inl, inr, ⊎_elim}
use Prim.Native.Nat.{ℕ, ◌<◌, ◌≤◌}
use native.Mathlib.Omega.{arith}
use lib.ListN.{length}
use borrow.Author.Tests.{leb-true, leb-false, eqb-true, eqb-false}
use Rattle.base.proofs.Laws.{whether_eq, whether_le}
use Rattle.base.proofs.Cases.{whether_by}
use Rattle.input.specs.SyntaxKind.{IDENT, QUESTION, BAD_KIND, BAD_JOINT, BAD_LENGTH}
use Rattle.input.specs.Input.{Tokens, kind_at, joint_at, token_limit, is_raw, is_joint, refusal, lengths_of, bytes_of, tokens_of, ahead}
use Rattle.input.specs.declared.Refusal.{Refusal}
use Rattle.input.specs.Input.{Checked}
use Rattle.input.proofs.Laws.{raw_bounds, bounds_raw, joint_bound, bound_joint, ahead_left, checked_by}
use Rattle.input.proofs.Scan.{First, All}
use Rattle.input.proofs.Checks.{Run, bytes_run, run_same, same_refusal}

-- not "lists of unequal length, or n above 4,096"
abbrev pub Lengths : Tokens → Type 0
Lengths ts = (length ts.kinds ≡ length ts.joints) × (length ts.kinds ≤ token_limit)

abbrev pub Short : Tokens → Refusal → Type 0
Short ts r = ((r.number ≡ BAD_LENGTH) × (r.place ≡ 0)) × (Lengths ts → ⊥)

unfoldable pub Verdict : Tokens → Checked → Type 0
Verdict ts (Ok _) = Lengths ts × Run ts 0 (length ts.kinds) (Ok tt)
Verdict ts (Err r) = Short ts r ⊎ (Lengths ts × Run ts 0 (length ts.kinds) (Err r))

module _ (ts : Tokens) where
  -- what the test of the lengths says
  abbrev Sized : Checked → Type 0
  Sized c = elim c [ Ok _ ↦ Lengths ts | Err r ↦ Short ts r ]

  lengths_sized : Sized (lengths_of ts)
  unfolding lengths_of
  lengths_sized =
      whether_by Sized _ _ _
      (λ p. whether_by Sized _ _ _ (λ q. (eqb-true _ _ p, leb-true _ _ q)) (λ q. ((refl, refl), λ s. absurd (omega (arith, s.1, leb-false (length ts.kinds) token_limit q)))))
      (λ p. ((refl, refl), λ s. eqb-false _ _ p s.0))

  run_verdict : (c : Checked) → Lengths ts → Run ts 0 (length ts.kinds) c → Verdict ts c
  unfolding Verdict
  run_verdict (Ok _) s v = (s, v)
  run_verdict (Err r) s v = inr (s, v)

  pub tokens_verdict : Verdict ts (tokens_of ts)
  unfolding tokens_of Verdict
  tokens_verdict =
      checked_by (Verdict ts) (lengths_of ts) _ _
      (λ e. run_verdict _ (subst Sized e lengths_sized) (bytes_run ts 0 (length ts.kinds)))
      (λ x e. inl (subst Sized e lengths_sized))

  -- any two verdicts agree
  pub verdict_same : (a b : Checked) → Verdict ts a → Verdict ts b → a ≡ b
  unfolding Verdict
  verdict_same (Ok _) (Ok _) x y = refl
  verdict_same (Ok _) (Err s) x (inl y) = absurd (y.1 x.0)
  verdict_same (Ok _) (Err s) x (inr y) = run_same ts 0 (length ts.kinds) _ _ x.1 y.1
  verdict_same (Err r) (Ok _) (inl x) y = absurd (x.1 y.0)
  verdict_same (Err r) (Ok _) (inr x) y = run_same ts 0 (length ts.kinds) _ _ x.1 y.1
  verdict_same (Err r) (Err s) (inl x) (inl y) = same_refusal r s (x.0.0 ∙ sym y.0.0) (x.0.1 ∙ sym y.0.1)
  verdict_same (Err r) (Err s) (inl x) (inr y) = absurd (x.1 y.0)
  verdict_same (Err r) (Err s) (inr x) (inl y) = absurd (y.1 x.0)
  verdict_same (Err r) (Err s) (inr x) (inr y) = run_same ts 0 (length ts.kinds) _ _ x.1 y.1

  only : (c : Checked) → tokens_of ts ≡ c → Verdict ts c
  only c e = subst (Verdict ts) e tokens_verdict

  when : (c : Checked) → Verdict ts c → tokens_of ts ≡ c
  when c v = verdict_same _ c tokens_verdict v

  -- no other refusal
  pub refused_number : (r : Refusal) → tokens_of ts ≡ Err r → (r.number ≡ BAD_LENGTH) ⊎ ((r.number ≡ BAD_KIND) ⊎ (r.number ≡ BAD_JOINT))
  unfolding Verdict Run
  refused_number r e = ⊎_elim (λ v. inl v.0.0) (λ v. inr (⊎_elim (λ w. inl w.0) (λ w. inr w.0) v.1)) (only (Err r) e)

  -- 3 exactly when the lists are of unequal length, or n is above 4,096; its place is 0
  pub length_refused : (place : ℕ) → tokens_of ts ≡ Err (refusal BAD_LENGTH place) → (place ≡ 0) × (Lengths ts → ⊥)
  unfolding Verdict Run
  length_refused place e =
      ⊎_elim (λ v. (v.0.1, v.1)) (λ v. ⊎_elim (λ w. absurd (omega (arith, w.0))) (λ w. absurd (omega (arith, w.0))) v.1) (only (Err (refusal BAD_LENGTH place)) e)

  pub refuses_length : (Lengths ts → ⊥) → tokens_of ts ≡ Err (refusal BAD_LENGTH 0)
  unfolding Verdict
  refuses_length h = when (Err (refusal BAD_LENGTH 0)) (inl ((refl, refl), h))

  -- 1 exactly when a kind is not 1..29, at the first such index
  pub kind_refused : (i : ℕ) → tokens_of ts ≡ Err (refusal BAD_KIND i) → Lengths ts × First is_raw ts.kinds 0 (length ts.kinds) i
  unfolding Verdict Run
  kind_refused i e =
      ⊎_elim (λ v. absurd (omega (arith, v.0.0))) (λ v. (v.0, ⊎_elim (λ w. w.1) (λ w. absurd (omega (arith, w.0))) v.1)) (only (Err (refusal BAD_KIND i)) e)

  pub refuses_kind : (i : ℕ) → Lengths ts → First is_raw ts.kinds 0 (length ts.kinds) i → tokens_of ts ≡ Err (refusal BAD_KIND i)
  unfolding Verdict Run
  refuses_kind i s f = when (Err (refusal BAD_KIND i)) (inr (s, inl (refl, f)))

  -- 2 exactly when all kinds are 1..29 and a joint byte is above 1, at the first such index
  pub joint_refused : (i : ℕ) → tokens_of ts ≡ Err (refusal BAD_JOINT i) → Lengths ts × (All is_raw ts.kinds 0 (length ts.kinds) × First is_joint ts.joints 0 (length ts.kinds) i)
  unfolding Verdict Run
  joint_refused i e =
      ⊎_elim (λ v. absurd (omega (arith, v.0.0))) (λ v. (v.0, ⊎_elim (λ w. absurd (omega (arith, w.0))) (λ w. w.1) v.1)) (only (Err (refusal BAD_JOINT i)) e)

  pub refuses_joint : (i : ℕ) → Lengths ts → All is_raw ts.kinds 0 (length ts.kinds) → First is_joint ts.joints 0 (length ts.kinds) i → tokens_of ts ≡ Err (refusal BAD_JOINT i)
  unfolding Verdict Run
  refuses_joint i s a f = when (Err (refusal BAD_JOINT i)) (inr (s, inr (refl, (a, f))))

-- "two byte lists of equal length n, at most 4,096: kinds, and joint bytes 0 or 1"
pub record Accepted (ts : Tokens) : Type 0 where
  pub equal : length ts.kinds ≡ length ts.joints
  pub limited : length ts.kinds ≤ token_limit
  pub raw : (i : ℕ) → i < length ts.kinds → (IDENT ≤ kind_at ts i) × (kind_at ts i ≤ QUESTION)
  pub joint : (i : ℕ) → i < length ts.joints → joint_at ts i ≤ 1

-- a list is fine exactly when it is such a list
pub fine_accepted : (ts : Tokens) → tokens_of ts ≡ Ok tt → Accepted ts
unfolding Verdict Run
fine_accepted ts e =
    let v : Verdict ts (Ok tt) = only ts (Ok tt) e in
    record
    { equal = v.0.0; limited = v.0.1; raw = λ i h. raw_bounds _ (v.1.0 i (omega arith) (omega arith)); joint = λ i h. joint_bound _ (v.1.1 i (omega arith) (omega (arith, v.0.0))) }

pub accepted_fine : (ts : Tokens) → Accepted ts → tokens_of ts ≡ Ok tt
unfolding Verdict Run
accepted_fine ts a =
    when ts (Ok tt)
    ((a.equal, a.limited), (λ i p h. bounds_raw _ (a.raw i (omega arith)).0 (a.raw i (omega arith)).1, λ i p h. bound_joint _ (a.joint i (omega (arith, a.equal)))))

-- an accepted list passes every later check, at any position
pub accepted_lengths : (ts : Tokens) → Accepted ts → lengths_of ts ≡ Ok tt
unfolding lengths_of
accepted_lengths ts a = sym (whether_eq _ _ _ _ a.equal (whether_le _ _ _ _ a.limited refl))

pub accepted_ahead : (ts : Tokens) (at : ℕ) → Accepted ts → bytes_of ts at (ahead ts at) ≡ Ok tt
unfolding Run
accepted_ahead ts at a =
    run_same ts at (ahead ts at) _ (Ok tt) (bytes_run ts at (ahead ts at))
    (λ i p h. bounds_raw _ (a.raw i (omega (arith, ahead_left ts at))).0 (a.raw i (omega (arith, ahead_left ts at))).1, λ i p h. bound_joint _ (a.joint i (omega (arith, ahead_left ts at, a.equal))))
