-- Every enter of an answer has its operand: an enter that was never matched would leave more nodes entered than left, against the third demand. Assumes nothing.
use mathlib.Core.Path.{◌≡◌, refl, ap, ◌∙◌}
use mathlib.Core.Bool.{Bool, true, false}
use mathlib.Core.List.{List, [], ◌∷◌, map}
use mathlib.Core.Logic.{⊎_elim}
use Prim.Native.Nat.{ℕ, zero, suc, ◌+◌, ◌-◌, ◌≤◌, ◌<◌}
use native.Mathlib.Omega.{arith}
use lib.Dec.{ltb, eqb}
use lib.ListN.{length, get_or, take, get_or-eq_default}
use lib.Seq.{take_all}
use borrow.Author.Tests.{ltb-true, ltb-false}
use Rattle.base.specs.Base.{whether}
use Rattle.base.proofs.Cases.{whether_by}
use Rattle.input.specs.SyntaxKind.{ENTER, TOKEN, LEAVE, FLOAT_SPLIT, FAULT, ENDS_IN_DOT, ERROR, PATH_TYPE}
use Rattle.input.proofs.Laws.{within_bounds, not_both, true_or_false}
use Rattle.demand.specs.Lists.{tally}
use Rattle.demand.specs.Steps.{Step, parted, code_of, step_from, enters, leaves}
use Rattle.operand.specs.Operand.{is_enter, leaves_of, end_of}
use Rattle.operand.specs.Matching.{enters_of, entered, left}
use Rattle.operand.proofs.Matching.{leaves_none, entered_more, left_more, entered_none, left_none, unmatched, end_is_a_match}
use Rattle.facts.specs.Facts.{EveryEnterIsShown}
use Rattle.facts.proofs.Theorems.{meets_demand_three}

-- a number that enters is read as an enter
enters_at_most : (x : ℕ) → enters_of x ≤ enters (step_from x)
unfolding enters_of is_enter step_from
enters_at_most x =
    whether_by (λ n. n ≤ enters (step_from x)) (is_enter x) _ _
    (λ h. let b = within_bounds (ENTER + ERROR) (ENTER + PATH_TYPE) x h in whether_by (λ (s : Step). 1 ≤ enters s) (ltb x TOKEN) _ _ (λ _. omega arith) (λ q. absurd (omega (arith, ltb-false x TOKEN q))))
    (λ _. omega arith)

-- a number that is a step leaves as many as the step
leave_one : leaves_of LEAVE ≡ 1
unfolding leaves_of whether
leave_one = refl

split_two_lem : leaves_of FLOAT_SPLIT ≡ 2
unfolding leaves_of whether
split_two_lem = refl

split_one : leaves_of (FLOAT_SPLIT + ENDS_IN_DOT) ≡ 1
unfolding leaves_of whether
split_one = refl

parted_leaves : (x : ℕ) (b : Bool) → x ≡ code_of (parted b) → leaves_of x ≡ leaves (parted b)
parted_leaves x true q = ap leaves_of q ∙ split_one
parted_leaves x false q = ap leaves_of q ∙ split_two_lem

leaves_same : (x : ℕ) → x ≡ code_of (step_from x) → leaves_of x ≡ leaves (step_from x)
unfolding step_from
leaves_same x =
    let P : Step → Type 0 = λ s. x ≡ code_of s → leaves_of x ≡ leaves s in
    whether_by P (ltb x TOKEN) _ _ (λ h _. leaves_none x (λ e. omega (arith, ltb-true x TOKEN h)) (λ e. omega (arith, ltb-true x TOKEN h)) (λ e. omega (arith, ltb-true x TOKEN h)))
    (λ _. whether_by P (ltb x LEAVE) _ _ (λ h _. leaves_none x (λ e. omega (arith, ltb-true x LEAVE h)) (λ e. omega (arith, ltb-true x LEAVE h)) (λ e. omega (arith, ltb-true x LEAVE h)))
    (λ _. whether_by P (ltb x FLOAT_SPLIT) _ _ (λ _ q. ap leaves_of q ∙ leave_one)
    (λ _. whether_by P (ltb x FAULT) _ _ (λ _ q. parted_leaves x (eqb x (FLOAT_SPLIT + ENDS_IN_DOT)) q)
    (λ h _. leaves_none x (λ e. omega (arith, ltb-false x FAULT h)) (λ e. omega (arith, ltb-false x FAULT h)) (λ e. omega (arith, ltb-false x FAULT h))))))

-- numbers that are all steps are so one by one
number_at : (l : List ℕ) → l ≡ map code_of (map step_from l) → (i : ℕ) → i < length l → get_or l i 0 ≡ code_of (step_from (get_or l i 0))
number_at [] q i h = absurd (omega arith)
number_at (x ∷ l) q zero h = cc
number_at (x ∷ l) q (suc i) h = let e : l ≡ map code_of (map step_from l) = cc in number_at l e i (omega arith)

-- a sum over the steps of so many numbers, and over one more
tally_more : (g : Step → ℕ) (l : List ℕ) (n : ℕ) → n < length l → tally g (take (suc n) (map step_from l)) ≡ tally g (take n (map step_from l)) + g (step_from (get_or l n 0))
tally_more g [] n h = absurd (omega arith)
tally_more g (x ∷ l) zero h = omega arith
tally_more g (x ∷ l) (suc n) h = omega (arith, tally_more g l n (omega arith))

module _ (l : List ℕ) (at : ℕ) where
  abbrev sum : (Step → ℕ) → ℕ → ℕ
  sum g n = tally g (take n (map step_from l))

  sum_more : (g : Step → ℕ) (k : ℕ) → at + k < length l → sum g (at + suc k) ≡ sum g (at + k) + g (step_from (get_or l (at + k) 0))
  sum_more g k h = let e : at + suc k ≡ suc (at + k) = omega arith in ap (sum g) e ∙ tally_more g l (at + k) h

  sum_here : (g : Step → ℕ) → sum g (at + 0) ≡ sum g at
  sum_here g = let e : at + 0 ≡ at = omega arith in ap (sum g) e

  entered_from : (k : ℕ) → at + k ≤ length l → sum enters at + entered l at k ≤ sum enters (at + k)
  entered_from zero h = omega (arith, sum_here enters, entered_none l at)
  entered_from (suc k) h = omega (arith, entered_from k (omega arith), sum_more enters k (omega arith), entered_more l at k, enters_at_most (get_or l (at + k) 0))

  left_from : l ≡ map code_of (map step_from l) → (k : ℕ) → at + k ≤ length l → sum leaves at + left l at k ≡ sum leaves (at + k)
  left_from q zero h = omega (arith, sum_here leaves, left_none l at)
  left_from q (suc k) h = omega (arith, left_from q k (omega arith), sum_more leaves k (omega arith), left_more l at k, leaves_same (get_or l (at + k) 0) (number_at l q (at + k) (omega arith)))

zero_enters_none : is_enter 0 ≡ false
unfolding is_enter whether
zero_enters_none = refl

-- what enters stands in the list
stands_inside : (l : List ℕ) (at : ℕ) → is_enter (get_or l at 0) ≡ true → at < length l
stands_inside l at x = ⊎_elim (λ h. ltb-true _ _ h) (λ h. absurd (none (ap is_enter (get_or-eq_default l 0 (ltb-false _ _ h))))) (true_or_false (ltb at (length l)))
  where
    none : is_enter (get_or l at 0) ≡ is_enter 0 → ⊥
    none q = not_both (is_enter (get_or l at 0)) x (q ∙ zero_enters_none)

-- an enter of steps that are even, and of which no more are left than entered at any point, is matched
matched_within : (l : List ℕ) (at : ℕ) → l ≡ map code_of (map step_from l) → tally enters (map step_from l) ≡ tally leaves (map step_from l) → tally leaves (take at (map step_from l)) ≤ tally enters (take at (map step_from l)) → is_enter (get_or l at 0) ≡ true → end_of l at ≡ 0 → ⊥
matched_within l at q even low x z =
    let h : at < length l = stands_inside l at x in
    let k : ℕ = length l - at in
    let e : at + k ≡ length l = omega arith in
    let all : (g : Step → ℕ) → sum l at g (at + k) ≡ tally g (map step_from l) = λ g. ap (sum l at g) e ∙ ap (tally g) (take_all (length l) (map step_from l) (whole l)) in
    omega (arith, entered_from l at k (omega arith), left_from l at q k (omega arith), unmatched l at x z k (omega arith) (omega arith), all enters, all leaves, even, low)
  where
    whole : (l : List ℕ) → length (map step_from l) ≤ length l
    whole [] = omega arith
    whole (y ∷ l) = omega (arith, whole l)

pub every_enter_is_shown : EveryEnterIsShown
every_enter_is_shown ts ev st consumed n at p x =
    let m = meets_demand_three ts ev st consumed n p in
    end_is_a_match _ at x (λ z. matched_within _ at m.numbers m.demand.even (m.demand.within at) x z)
