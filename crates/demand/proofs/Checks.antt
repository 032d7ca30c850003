-- What the checks of a whole token list say of any place in it: a call that looks ahead finds nothing bad. And the numbers that the checks refuse by. Assumes nothing.
use Rattle.std.proofs.Common.{Ok, Err}
use mathlib.Core.Path.{◌≡◌, refl, sym, subst, ap, ◌∙◌}
use mathlib.Core.List.{List}
use mathlib.Core.Bool.{Bool, true, false}
use Prim.Native.Nat.{ℕ, zero, suc, ◌+◌, ◌-◌, ◌≤◌, ◌<◌}
use native.Mathlib.Omega.{arith}
use lib.ListN.{length, get_or}
use lib.Dec.{ltb, leb, eqb}
use borrow.Author.Tests.{ltb-true, ltb-false}
use Rattle.base.specs.Base.{bound}
use Rattle.base.proofs.Cases.{whether_by}
use Rattle.input.specs.Input.{Tokens, token_limit, width_limit, is_raw, is_joint, first_off, lengths_of, bytes_of, on_checked, tokens_of, ahead, Checked}
use Rattle.input.specs.declared.Refusal.{Refusal}
use Rattle.input.proofs.Laws.{not_both}
use Rattle.demand.proofs.Tokens.{lengths_fine as few_tokens}

pub no_both : {r : Refusal} → ◌≡◌ {A = Checked} (Ok tt) (Err r) → ⊥
no_both q = let z : ◌≡◌ {A = ℕ} 0 1 = cc in omega arith

here_or_later : {P : Type 0} (at i : ℕ) → at ≤ i → (at ≡ i → P) → (at + 1 ≤ i → P) → P
here_or_later {P} at i h f g = go (ltb at i) refl
  where
    go : (b : Bool) → ltb at i ≡ b → P
    go true p = g (omega (arith, ltb-true at i p))
    go false p = f (omega (arith, ltb-false at i p))

-- one check after another
both_fine : (c d : Checked) → on_checked c (λ _. d) Err ≡ Ok tt → (c ≡ Ok tt) × (d ≡ Ok tt)
unfolding on_checked
both_fine (Ok _) d q = (refl, q)
both_fine (Err r) d q = absurd (no_both (sym q))

pub then_fine : (c : Checked) (d : Unit {0} → Checked) → c ≡ Ok tt → d tt ≡ Ok tt → on_checked c d Err ≡ Ok tt
unfolding on_checked
then_fine c d p q = ap (λ x. on_checked x d Err) p ∙ q

-- every entry of a stretch is good, and back
module _ (good : ℕ → Bool) (l : List ℕ) where
  pub stretch_good : (at k : ℕ) → at + k ≤ first_off good l at k → (i : ℕ) → at ≤ i → i < at + k → good (get_or l i 0) ≡ true
  unfolding first_off
  stretch_good at zero h i a b = absurd (omega arith)
  stretch_good at (suc k) h i a b =
      whether_by (λ x. at + suc k ≤ x → good (get_or l i 0) ≡ true) (good (get_or l at 0)) (λ _. first_off good l (at + 1) k) (λ _. at)
      (λ q z. here_or_later at i a (λ e. subst (λ (j : ℕ). good (get_or l j 0) ≡ true) e q) (λ p. stretch_good (at + 1) k (omega arith) i p (omega arith)))
      (λ _ z. absurd (omega arith)) h

  pub good_stretch : (at k : ℕ) → ((i : ℕ) → at ≤ i → i < at + k → good (get_or l i 0) ≡ true) → at + k ≤ first_off good l at k
  unfolding first_off
  good_stretch at zero h = omega arith
  good_stretch at (suc k) h =
      whether_by (λ x. at + suc k ≤ x) (good (get_or l at 0)) (λ _. first_off good l (at + 1) k) (λ _. at)
      (λ _. omega (arith, good_stretch (at + 1) k (λ i a b. h i (omega arith) (omega arith))))
      (λ q. absurd (not_both (good (get_or l at 0)) (h at (omega arith) (omega arith)) q))

-- the checks of a stretch
module _ (ts : Tokens) (at k : ℕ) where
  pub bytes_good : bytes_of ts at k ≡ Ok tt → (at + k ≤ first_off is_raw ts.kinds at k) × (at + k ≤ first_off is_joint ts.joints at k)
  unfolding bytes_of bound
  bytes_good =
      whether_by (λ x. x ≡ Ok tt → (at + k ≤ first_off is_raw ts.kinds at k) × (at + k ≤ first_off is_joint ts.joints at k)) (ltb (first_off is_raw ts.kinds at k) (at + k)) _ _ (λ _ q. absurd (no_both (sym q)))
      (λ p. whether_by (λ x. x ≡ Ok tt → (at + k ≤ first_off is_raw ts.kinds at k) × (at + k ≤ first_off is_joint ts.joints at k)) (ltb (first_off is_joint ts.joints at k) (at + k)) _ _ (λ _ q. absurd (no_both (sym q)))
      (λ r _. (ltb-false _ _ p, ltb-false _ _ r)))

  pub good_bytes : at + k ≤ first_off is_raw ts.kinds at k → at + k ≤ first_off is_joint ts.joints at k → bytes_of ts at k ≡ Ok tt
  unfolding bytes_of bound
  good_bytes a b =
      whether_by (λ x. x ≡ Ok tt) (ltb (first_off is_raw ts.kinds at k) (at + k)) _ _ (λ p. absurd (omega (arith, ltb-true (first_off is_raw ts.kinds at k) (at + k) p)))
      (λ _. whether_by (λ x. x ≡ Ok tt) (ltb (first_off is_joint ts.joints at k) (at + k)) _ _ (λ p. absurd (omega (arith, ltb-true (first_off is_joint ts.joints at k) (at + k) p))) (λ _. refl))

ahead_within : (ts : Tokens) (at : ℕ) → at ≤ length ts.kinds → at + ahead ts at ≤ length ts.kinds
unfolding ahead bound
ahead_within ts at h = whether_by (λ x. at + x ≤ length ts.kinds) (ltb (length ts.kinds - at) width_limit) _ _ (λ _. omega arith) (λ p. omega (arith, ltb-false (length ts.kinds - at) width_limit p))

-- a list that passes the checks
module _ (ts : Tokens) (fine : tokens_of ts ≡ Ok tt) where
  checked : (lengths_of ts ≡ Ok tt) × (bytes_of ts 0 (length ts.kinds) ≡ Ok tt)
  unfolding tokens_of
  checked = both_fine (lengths_of ts) (bytes_of ts 0 (length ts.kinds)) fine

  pub lengths_fine : lengths_of ts ≡ Ok tt
  lengths_fine = checked.0

  pub bytes_fine : (at : ℕ) → at ≤ length ts.kinds → bytes_of ts at (ahead ts at) ≡ Ok tt
  bytes_fine at h =
      let b = bytes_good ts 0 (length ts.kinds) checked.1 in
      let w = ahead_within ts at h in
      good_bytes ts at (ahead ts at)
      (good_stretch is_raw ts.kinds at (ahead ts at) (λ i x y. stretch_good is_raw ts.kinds 0 (length ts.kinds) b.0 i (omega arith) (omega arith)))
      (good_stretch is_joint ts.joints at (ahead ts at) (λ i x y. stretch_good is_joint ts.joints 0 (length ts.kinds) b.1 i (omega arith) (omega arith)))

  pub tokens_few : length ts.kinds ≤ token_limit
  tokens_few = few_tokens ts lengths_fine

-- the numbers of the checks
abbrev pub By1_3 : Checked → Type 0
By1_3 (Ok _) = Unit {0}
By1_3 (Err r) = (1 ≤ r.number) × (r.number ≤ 3)

bytes_by : (ts : Tokens) (at k : ℕ) → By1_3 (bytes_of ts at k)
unfolding bytes_of bound
bytes_by ts at k = whether_by By1_3 (ltb (first_off is_raw ts.kinds at k) (at + k)) _ _ (λ _. omega arith) (λ _. whether_by By1_3 (ltb (first_off is_joint ts.joints at k) (at + k)) _ _ (λ _. omega arith) (λ _. tt))

lengths_by : (ts : Tokens) → By1_3 (lengths_of ts)
unfolding lengths_of
lengths_by ts = whether_by By1_3 (eqb (length ts.kinds) (length ts.joints)) _ _ (λ _. whether_by By1_3 (leb (length ts.kinds) token_limit) _ _ (λ _. tt) (λ _. omega arith)) (λ _. omega arith)

on_checked_by : (c d : Checked) → By1_3 c → By1_3 d → By1_3 (on_checked c (λ _. d) Err)
unfolding on_checked
on_checked_by (Ok _) d p q = q
on_checked_by (Err r) d p q = p

pub tokens_by : (ts : Tokens) → By1_3 (tokens_of ts)
unfolding tokens_of
tokens_by ts = on_checked_by (lengths_of ts) (bytes_of ts 0 (length ts.kinds)) (lengths_by ts) (bytes_by ts 0 (length ts.kinds))
