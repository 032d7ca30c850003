-- The theorems of `specs/Exact`: by the steps one by one, and by which list is longer. Assumes nothing.
use mathlib.Core.Path.{◌≡◌, refl, sym, ap, subst}
use mathlib.Core.Bool.{Bool, true, false}
use mathlib.Core.List.{List, ◌++◌, append-nil}
use mathlib.Core.Logic.{◌⊎◌, inl, inr, ⊎_elim}
use Prim.Native.Nat.{ℕ, zero, suc, ◌<◌}
use native.Mathlib.Omega.{arith}
use lib.ListN.{length, get_or, take, take-append-drop}
use lib.Seq.{ext_get_or}
use lib.Dec.{ltb, eqb}
use borrow.Author.Tests.{eqb-true, eq-eqb, ne_eqb, ltb-true, ltb-false}
use Rattle.base.specs.Base.{whether}
use Rattle.input.proofs.Laws.{both_true, true_both, true_or_false}
use Rattle.revision.specs.Revision.{step_text, differs_text, common_of, rest_of, same_up_to, same_of}
use Rattle.revision.specs.Exact.{EqualIsSame, GoesOn, SkipsTheEqual}

module _ (a b : List ℕ) where
  -- the same up to n, step by step, and back
  up_to : (n : ℕ) → same_up_to a b n ≡ true → (i : ℕ) → i < n → get_or a i 0 ≡ get_or b i 0
  unfolding same_up_to
  up_to zero h i l = absurd (omega arith)
  up_to (suc n) h i l =
      let p = both_true (same_up_to a b n) (λ _. eqb (get_or a n 0) (get_or b n 0)) h in
      ⊎_elim (λ z. up_to n p.0 i (ltb-true i n z)) (λ z. let e : n ≡ i = omega (arith, ltb-false i n z) in subst (λ k. get_or a k 0 ≡ get_or b k 0) e (eqb-true _ _ p.1)) (true_or_false (ltb i n))

  same_up_to_lem : (n : ℕ) → ((i : ℕ) → get_or a i 0 ≡ get_or b i 0) → same_up_to a b n ≡ true
  unfolding same_up_to
  same_up_to_lem zero h = refl
  same_up_to_lem (suc n) h = true_both (same_up_to a b n) (λ _. eqb (get_or a n 0) (get_or b n 0)) (same_up_to_lem n h) (eq-eqb _ _ (h n))

pub equal_is_same : EqualIsSame
unfolding same_of
equal_is_same a b = (forth, back)
  where
    forth : whether (eqb (length a) (length b)) (λ _. same_up_to a b (length a)) (λ _. false) ≡ true → a ≡ b
    forth h =
        let p = both_true (eqb (length a) (length b)) (λ _. same_up_to a b (length a)) h in
        ext_get_or 0 a b (eqb-true _ _ p.0) (λ i l. up_to a b (length a) p.1 i l)

    back : a ≡ b → whether (eqb (length a) (length b)) (λ _. same_up_to a b (length a)) (λ _. false) ≡ true
    back e = true_both (eqb (length a) (length b)) (λ _. same_up_to a b (length a)) (eq-eqb _ _ (ap length e)) (same_up_to_lem a b (length a) (λ i. ap (λ l. get_or l i 0) e))

pub skips_the_equal : SkipsTheEqual
unfolding differs_text step_text whether
skips_the_equal a b i = ((λ e. rw (eq-eqb (get_or a i 0) (get_or b i 0) e) (append-nil (differs_text a b i))), (λ e. rw (ne_eqb (get_or a i 0) (get_or b i 0) e)))

pub goes_on : GoesOn
unfolding common_of rest_of whether
goes_on a b = go (ltb (length a) (length b)) refl
  where
    go : (x : Bool) → ltb (length a) (length b) ≡ x → (a ≡ take (common_of a b) a ++ rest_of a b) ⊎ (b ≡ take (common_of a b) b ++ rest_of a b)
    go true h = inr (rw h (sym (take-append-drop (length a) b)))
    go false h = inl (rw h (sym (take-append-drop (length b) a)))
