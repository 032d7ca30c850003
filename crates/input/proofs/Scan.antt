-- The "first such index": `first_off` step by step, as the loop goes, and in words: all before it are fine, it is not.
-- By induction on the entries that are left. Assumes nothing.
use mathlib.Core.Path.{◌≡◌, refl, sym, ap, ◌∙◌}
use mathlib.Core.Bool.{Bool, true, false}
use mathlib.Core.List.{List}
use mathlib.Core.Logic.{◌⊎◌, inl, inr, ⊎_elim}
use Prim.Native.Nat.{ℕ, zero, suc, ◌+◌, ◌-◌, ◌<◌, ◌≤◌}
use native.Mathlib.Omega.{arith}
use lib.Dec.{ltb}
use lib.ListN.{get_or}
use borrow.Author.Tests.{ltb-true, ltb-false}
use Rattle.base.proofs.Laws.{whether_yes, whether_no}
use Rattle.input.specs.Input.{within, first_off}
use Rattle.input.proofs.Laws.{true_or_false, not_both}

module _ (fine : ℕ → Bool) (l : List ℕ) where
  off_now : (at k : ℕ) → fine (get_or l at 0) ≡ false → first_off fine l at (suc k) ≡ at
  unfolding first_off
  off_now at k h = sym (whether_no _ _ h refl)

  fine_now : (at k : ℕ) → fine (get_or l at 0) ≡ true → first_off fine l at (suc k) ≡ first_off fine l (at + 1) k
  unfolding first_off
  fine_now at k h = sym (whether_yes _ _ h refl)

  none_left : (at : ℕ) → first_off fine l at 0 ≡ at
  unfolding first_off
  none_left at = refl

  -- the loop: at its end, where a byte is off, and where it goes on
  pub scan_end : (i end : ℕ) → end ≤ i → first_off fine l i (end - i) ≡ i
  scan_end i end h = let e : end - i ≡ 0 = omega arith in rw e (none_left i)

  pub scan_off : (i end : ℕ) → i < end → fine (get_or l i 0) ≡ false → first_off fine l i (end - i) ≡ i
  scan_off i end h q = let e : end - i ≡ suc (end - (i + 1)) = omega arith in rw e (off_now i _ q)

  pub scan_on : (i end : ℕ) → i < end → fine (get_or l i 0) ≡ true → first_off fine l i (end - i) ≡ first_off fine l (i + 1) (end - (i + 1))
  scan_on i end h q = let e : end - i ≡ suc (end - (i + 1)) = omega arith in rw e (fine_now i _ q)

  -- an index among the k entries from a position on, the first that is off
  pub record First (at k i : ℕ) : Type 0 where
    pub from : at ≤ i
    pub below : i < at + k
    pub off : fine (get_or l i 0) ≡ false
    pub before : (j : ℕ) → at ≤ j → j < i → fine (get_or l j 0) ≡ true

  abbrev pub All : ℕ → ℕ → Type 0
  All at k = (j : ℕ) → at ≤ j → j < at + k → fine (get_or l j 0) ≡ true

  -- it is the first that is off, or all are fine
  abbrev pub Found : ℕ → ℕ → ℕ → Type 0
  Found at k i = First at k i ⊎ ((i ≡ at + k) × All at k)

  here_or_later : (at j : ℕ) → fine (get_or l at 0) ≡ true → at ≤ j → (at + 1 ≤ j → fine (get_or l j 0) ≡ true) → fine (get_or l j 0) ≡ true
  here_or_later at j h p f =
      ⊎_elim (λ q. f (omega (arith, ltb-true at j q))) (λ q. let e : j ≡ at = omega (arith, ltb-false at j q) in rw e h) (true_or_false (ltb at j))

  found_on : (at k i : ℕ) → fine (get_or l at 0) ≡ true → Found (at + 1) k i → Found at (suc k) i
  found_on at k i h (inl f) =
      inl (record { from = omega (arith, f.from); below = omega (arith, f.below); off = f.off; before = λ j p q. here_or_later at j h p (λ r. f.before j r q) })
  found_on at k i h (inr f) = inr (omega (arith, f.0), λ j p q. here_or_later at j h p (λ r. f.1 j r (omega arith)))

  pub first_off_lem : (at k : ℕ) → Found at k (first_off fine l at k)
  first_off_lem at zero = inr (none_left at ∙ (let e : at ≡ at + 0 = omega arith in e), λ j p q. absurd (omega arith))
  first_off_lem at (suc k) =
      ⊎_elim (λ h. rw (fine_now at k h) (found_on at k _ h (first_off_lem (at + 1) k)))
      (λ h. rw (off_now at k h) (inl (record { from = omega arith; below = omega arith; off = h; before = λ j p q. absurd (omega arith) })))
      (true_or_false (fine (get_or l at 0)))

  -- there is one such index at most, and none where all are fine
  pub first_same : (at k i j : ℕ) → First at k i → First at k j → i ≡ j
  first_same at k i j f g =
      ⊎_elim (λ q. absurd (not_both _ (g.before i f.from (ltb-true i j q)) f.off))
      (λ q. ⊎_elim (λ r. absurd (not_both _ (f.before j g.from (ltb-true j i r)) g.off)) (λ r. omega (arith, ltb-false i j q, ltb-false j i r)) (true_or_false (ltb j i)))
      (true_or_false (ltb i j))

  pub first_not_all : (at k i : ℕ) → First at k i → All at k → ⊥
  first_not_all at k i f a = not_both _ (a i f.from f.below) f.off

-- a turn of the loop, from the answers of its calls: what remains from here is the whole
module _ (l : List ℕ) (low high i end : ℕ) {whole : ℕ} where
  pub is_off : {byte : ℕ} {b : Bool} → byte ≡ get_or l i 0 → b ≡ within low high byte → b ≡ false → i < end → first_off (within low high) l i (end - i) ≡ whole → i ≡ whole
  is_off p q r h e = sym (scan_off (within low high) l i end h (ap (within low high) (sym p) ∙ sym q ∙ r)) ∙ e

  pub is_on : {byte : ℕ} {b : Bool} → byte ≡ get_or l i 0 → b ≡ within low high byte → b ≡ true → i < end → first_off (within low high) l i (end - i) ≡ whole → first_off (within low high) l (i + 1) (end - (i + 1)) ≡ whole
  is_on p q r h e = sym (scan_on (within low high) l i end h (ap (within low high) (sym p) ∙ sym q ∙ r)) ∙ e

  pub is_end : end ≤ i → first_off (within low high) l i (end - i) ≡ whole → i ≡ whole
  is_end h e = sym (scan_end (within low high) l i end h) ∙ e
