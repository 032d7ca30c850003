-- The part that `operand` gives is the matching stretch, and there is none exactly where it gives none. By induction on the turns that are left. Assumes nothing.
use Rattle.std.proofs.Common.{Result, Ok, Err}
use mathlib.Core.Path.{◌≡◌, refl, sym, ap, subst, ◌∙◌}
use mathlib.Core.Bool.{Bool, true, false}
use mathlib.Core.List.{List, []}
use mathlib.Core.Logic.{◌⊎◌, inl, inr, ⊎_elim}
use Prim.Native.Nat.{ℕ, zero, suc, ◌+◌, ◌-◌, ◌≤◌, ◌<◌}
use native.Mathlib.Omega.{arith}
use lib.Dec.{ltb, leb, eqb}
use lib.ListN.{length, get_or, take, drop, length-take, length-drop}
use borrow.Author.Tests.{ltb-true, ltb-false, leb-true, leb-false, eqb-true, eq-eqb}
use Rattle.base.specs.Base.{bound, Next, on_next, loops}
use Rattle.base.proofs.Cases.{whether_by}
use Rattle.input.specs.SyntaxKind.{ENTER, LEAVE, FLOAT_SPLIT, ENDS_IN_DOT, ERROR, PATH_TYPE}
use Rattle.input.specs.Input.{refusal}
use Rattle.input.specs.declared.Refusal.{Refusal}
use Rattle.input.proofs.Laws.{within_bounds, not_both, true_or_false}
use Rattle.operand.specs.Operand.{NO_OPERAND, is_enter, leaves_of, match_turn, match_of, end_of, operand_of, check_of}
use Rattle.operand.specs.Matching.{enters_of, entered, left, Matches, FindsTheMatch, RefusesWithout, Shown, ShowsOrRefuses, EmptyWhereRefused}
use Rattle.operand.proofs.Laws.{end_entered, end_other, part_some, part_none, check_none, check_fine}

-- what is no leave and no split leaves nothing
pub leaves_none : (x : ℕ) → (x ≡ LEAVE → ⊥) → (x ≡ FLOAT_SPLIT → ⊥) → (x ≡ FLOAT_SPLIT + ENDS_IN_DOT → ⊥) → leaves_of x ≡ 0
unfolding leaves_of
leaves_none x p q r =
    whether_by (λ n. n ≡ 0) (eqb x LEAVE) _ _ (λ h. absurd (p (eqb-true x LEAVE h)))
    (λ _. whether_by (λ n. n ≡ 0) (eqb x FLOAT_SPLIT) _ _ (λ h. absurd (q (eqb-true x FLOAT_SPLIT h)))
    (λ _. whether_by (λ n. n ≡ 0) (eqb x (FLOAT_SPLIT + ENDS_IN_DOT)) _ _ (λ h. absurd (r (eqb-true x (FLOAT_SPLIT + ENDS_IN_DOT) h))) (λ _. refl)))

-- a step that enters leaves nothing
enter_leaves_none : (x : ℕ) → is_enter x ≡ true → leaves_of x ≡ 0
unfolding is_enter
enter_leaves_none x h =
    let b = within_bounds (ENTER + ERROR) (ENTER + PATH_TYPE) x h in
    leaves_none x (λ e. omega (arith, b.1)) (λ e. omega (arith, b.1)) (λ e. omega (arith, b.1))

enters_one : (x : ℕ) → is_enter x ≡ true → enters_of x ≡ 1
unfolding enters_of
enters_one x h = whether_by (λ n. n ≡ 1) (is_enter x) _ _ (λ _. refl) (λ q. absurd (not_both (is_enter x) h q))

enters_none : (x : ℕ) → is_enter x ≡ false → enters_of x ≡ 0
unfolding enters_of
enters_none x h = whether_by (λ n. n ≡ 0) (is_enter x) _ _ (λ q. absurd (not_both (is_enter x) q h)) (λ _. refl)

-- one step more
module _ (steps : List ℕ) (at : ℕ) where
  pub entered_more : (k : ℕ) → entered steps at (suc k) ≡ entered steps at k + enters_of (get_or steps (at + k) 0)
  unfolding entered
  entered_more k = refl

  pub left_more : (k : ℕ) → left steps at (suc k) ≡ left steps at k + leaves_of (get_or steps (at + k) 0)
  unfolding left
  left_more k = refl

  pub entered_none : entered steps at 0 ≡ 0
  unfolding entered
  entered_none = refl

  pub left_none : left steps at 0 ≡ 0
  unfolding left
  left_none = refl

module _ (steps : List ℕ) (at : ℕ) (enter : is_enter (get_or steps at 0) ≡ true) where
  -- after k steps so many nodes are open, and at no step before were all left
  record Open (k nodes : ℕ) : Type 0 where
    sum : nodes + left steps at k ≡ entered steps at k
    some : 1 ≤ nodes
    below : (j : ℕ) → 1 ≤ j → j ≤ k → left steps at j < entered steps at j

  -- what is found: a match, or none
  abbrev Found : ℕ → Type 0
  Found r = ((r ≡ 0) × ((j : ℕ) → 1 ≤ j → at + j ≤ length steps → left steps at j < entered steps at j)) ⊎ ((at < r) × Matches steps at (r - at))

  none_up_to : (k nodes : ℕ) → Open k nodes → length steps ≤ at + k → Found 0
  none_up_to k nodes o l = inl (refl, λ j p q. o.below j p (omega arith))

  first_is : Open 1 1
  first_is = record { sum = sum; some = omega arith; below = below }
    where
      here : get_or steps (at + 0) 0 ≡ get_or steps at 0
      here = let e : at + 0 ≡ at = omega arith in ap (λ n. get_or steps n 0) e

      x : is_enter (get_or steps (at + 0) 0) ≡ true
      x = ap is_enter here ∙ enter

      sum : 1 + left steps at 1 ≡ entered steps at 1
      sum = omega (arith, entered_more steps at 0, left_more steps at 0, entered_none steps at, left_none steps at, enters_one (get_or steps (at + 0) 0) x, enter_leaves_none (get_or steps (at + 0) 0) x)

      below : (j : ℕ) → 1 ≤ j → j ≤ 1 → left steps at j < entered steps at j
      below j p q = let e : j ≡ 1 = omega arith in rw e (omega (arith, sum))

  -- one step more: into a node, and past a step that leaves too few
  module _ (k nodes : ℕ) (o : Open k nodes) where
    all_below : left steps at (suc k) < entered steps at (suc k) → (j : ℕ) → 1 ≤ j → j ≤ suc k → left steps at j < entered steps at j
    all_below h j p q = go (ltb j (suc k)) refl
      where
        go : (b : Bool) → ltb j (suc k) ≡ b → left steps at j < entered steps at j
        go true z = o.below j p (let y : j < suc k = ltb-true j (suc k) z in omega arith)
        go false z = let e : j ≡ suc k = omega (arith, ltb-false j (suc k) z) in rw e h

    into : is_enter (get_or steps (at + k) 0) ≡ true → Open (suc k) (nodes + 1)
    into x =
        let s : nodes + 1 + left steps at (suc k) ≡ entered steps at (suc k) = omega (arith, o.sum, entered_more steps at k, left_more steps at k, enters_one (get_or steps (at + k) 0) x, enter_leaves_none (get_or steps (at + k) 0) x) in
        record { sum = s; some = omega arith; below = all_below (omega (arith, s)) }

    past : is_enter (get_or steps (at + k) 0) ≡ false → leaves_of (get_or steps (at + k) 0) < nodes → Open (suc k) (nodes - leaves_of (get_or steps (at + k) 0))
    past x h =
        let s : nodes - leaves_of (get_or steps (at + k) 0) + left steps at (suc k) ≡ entered steps at (suc k) = omega (arith, o.sum, entered_more steps at k, left_more steps at k, enters_none (get_or steps (at + k) 0) x, h) in
        record { sum = s; some = omega (arith, h); below = all_below (omega (arith, s, h)) }

    match : 1 ≤ k → is_enter (get_or steps (at + k) 0) ≡ false → nodes ≤ leaves_of (get_or steps (at + k) 0) → at + k < length steps → Matches steps at (suc k)
    match one x h l =
        record {
          enter = enter;
          some = omega arith;
          inside = omega arith;
          before = λ j p q. o.below j p (omega arith);
          caught = omega (arith, o.sum, entered_more steps at k, left_more steps at k, enters_none (get_or steps (at + k) 0) x, h);
        }

  -- the way from k steps on
  way : (f k nodes : ℕ) → 1 ≤ k → length steps < at + k + f → Open k nodes → Found (loops f (match_turn steps) 0 (at + k, nodes))
  unfolding loops on_next match_turn bound
  way zero k nodes one l o = none_up_to k nodes o (omega arith)
  way (suc f) k nodes one l o =
      whether_by P (ltb (at + k) (length steps)) _ _
      (λ h. whether_by P (is_enter (get_or steps (at + k) 0)) _ _
      (λ x. on (nodes + 1) (way f (suc k) (nodes + 1) (omega arith) (omega arith) (into k nodes o x)))
      (λ x. whether_by P (leb nodes (leaves_of (get_or steps (at + k) 0))) _ _
      (λ y. inr (omega arith, subst (λ n. Matches steps at n) (omega arith) (match k nodes o one x (leb-true _ _ y) (ltb-true _ _ h))))
      (λ y. on (nodes - leaves_of (get_or steps (at + k) 0)) (way f (suc k) (nodes - leaves_of (get_or steps (at + k) 0)) (omega arith) (omega arith) (past k nodes o x (leb-false _ _ y))))))
      (λ h. none_up_to k nodes o (ltb-false _ _ h))
    where
      P : Next (ℕ × ℕ) ℕ → Type 0
      P n = Found (on_next n (λ z. loops f (match_turn steps) 0 z) (λ a. a))

      on : (more : ℕ) → Found (loops f (match_turn steps) 0 (at + suc k, more)) → Found (loops f (match_turn steps) 0 (at + k + 1, more))
      on more p = let e : at + suc k ≡ at + k + 1 = omega arith in subst (λ n. Found (loops f (match_turn steps) 0 (n, more))) e p

  found : Found (match_of steps at)
  unfolding match_of
  found = way (suc (length steps)) 1 1 (omega arith) (omega arith) first_is

-- two numbers of which neither is below the other
trichotomy : (a b : ℕ) → (a < b → ⊥) → (b < a → ⊥) → a ≡ b
trichotomy a b p q = ⊎_elim (λ z. absurd (p (ltb-true a b z))) (λ z. ⊎_elim (λ y. absurd (q (ltb-true b a y))) (λ y. omega (arith, ltb-false a b z, ltb-false b a y)) (true_or_false (ltb b a))) (true_or_false (ltb a b))

-- there is one match at the most
one_match : (steps : List ℕ) (at j k : ℕ) → Matches steps at j → Matches steps at k → j < k → ⊥
one_match steps at j k m n l = let z : left steps at j < entered steps at j = n.before j m.some l in omega (arith, m.caught)

-- the end, where a node is entered and where none is
end_matched : (steps : List ℕ) (at : ℕ) → is_enter (get_or steps at 0) ≡ true → end_of steps at ≡ match_of steps at
end_matched steps at x = end_entered steps at refl refl x

pub finds_the_match : FindsTheMatch
finds_the_match steps at k m = go (found steps at m.enter)
  where
    end : end_of steps at ≡ match_of steps at
    end = end_matched steps at m.enter

    go : Found steps at m.enter (match_of steps at) → (operand_of steps at ≡ take k (drop at steps)) × (check_of steps at ≡ Ok tt)
    go (inl f) = absurd (let z : left steps at k < entered steps at k = f.1 k m.some m.inside in omega (arith, m.caught))
    go (inr f) =
        let e : match_of steps at - at ≡ k = trichotomy (match_of steps at - at) k (λ l. one_match steps at _ _ f.1 m l) (λ l. one_match steps at _ _ m f.1 l) in
        (sym (part_some steps at (sym end)) ∙ rw e, sym (check_fine steps at (λ z. omega (arith, f.0, z, end))))

pub refuses_without : RefusesWithout
refuses_without steps at none = go (is_enter (get_or steps at 0)) refl
  where
    empty : end_of steps at ≡ 0 → (operand_of steps at ≡ []) × (check_of steps at ≡ Err (refusal NO_OPERAND at))
    empty e = (sym (part_none steps at e), sym (check_none steps at e))

    none_found : (x : is_enter (get_or steps at 0) ≡ true) → Found steps at x (match_of steps at) → end_of steps at ≡ 0
    none_found x (inl f) = end_matched steps at x ∙ f.0
    none_found x (inr f) = absurd (none _ f.1)

    go : (b : Bool) → is_enter (get_or steps at 0) ≡ b → (operand_of steps at ≡ []) × (check_of steps at ≡ Err (refusal NO_OPERAND at))
    go true x = empty (none_found x (found steps at x))
    go false x = empty (end_other steps at refl refl x)

-- an enter that is never matched: behind it fewer are left than entered, however far one looks
pub unmatched : (steps : List ℕ) (at : ℕ) → is_enter (get_or steps at 0) ≡ true → end_of steps at ≡ 0 → (j : ℕ) → 1 ≤ j → at + j ≤ length steps → left steps at j < entered steps at j
unmatched steps at x e = go (found steps at x)
  where
    go : Found steps at x (match_of steps at) → (j : ℕ) → 1 ≤ j → at + j ≤ length steps → left steps at j < entered steps at j
    go (inl f) = f.1
    go (inr f) = absurd (omega (arith, f.0, e, end_matched steps at x))

-- an end that is found is a match
pub end_is_a_match : (steps : List ℕ) (at : ℕ) → is_enter (get_or steps at 0) ≡ true → (end_of steps at ≡ 0 → ⊥) → Shown steps at
end_is_a_match steps at x e = go (found steps at x)
  where
    go : Found steps at x (match_of steps at) → Shown steps at
    go (inl f) = absurd (e (end_matched steps at x ∙ f.0))
    go (inr f) = let m = finds_the_match steps at (match_of steps at - at) f.1 in record { many = match_of steps at - at; matches = f.1; part = m.0; is_fine = m.1 }

pub shows_or_refuses : ShowsOrRefuses
shows_or_refuses steps at = go (is_enter (get_or steps at 0)) refl
  where
    refused : end_of steps at ≡ 0 → Shown steps at ⊎ ((operand_of steps at ≡ []) × (check_of steps at ≡ Err (refusal NO_OPERAND at)))
    refused e = inr (sym (part_none steps at e), sym (check_none steps at e))

    end : (x : is_enter (get_or steps at 0) ≡ true) (b : Bool) → eqb (end_of steps at) 0 ≡ b → Shown steps at ⊎ ((operand_of steps at ≡ []) × (check_of steps at ≡ Err (refusal NO_OPERAND at)))
    end x true q = refused (eqb-true _ _ q)
    end x false q = inl (end_is_a_match steps at x (λ e. not_both (eqb (end_of steps at) 0) (eq-eqb _ _ e) q))

    go : (b : Bool) → is_enter (get_or steps at 0) ≡ b → Shown steps at ⊎ ((operand_of steps at ≡ []) × (check_of steps at ≡ Err (refusal NO_OPERAND at)))
    go true x = end x (eqb (end_of steps at) 0) refl
    go false x = refused (end_other steps at refl refl x)

-- a part that is shown has a step at least
some_part : (steps : List ℕ) (at : ℕ) → Shown steps at → operand_of steps at ≡ [] → ⊥
some_part steps at s q =
    let long : length (take s.many (drop at steps)) ≡ 0 = ap length (sym s.part ∙ q) in
    omega (arith, s.matches.some, s.matches.inside, simp (length-take, length-drop) at long)

fine_or_refused : {c : Result Unit Refusal} {r : Refusal} → c ≡ Ok tt → c ≡ Err r → ⊥
fine_or_refused p q = cc

pub empty_where_refused : EmptyWhereRefused
empty_where_refused steps at = go (shows_or_refuses steps at)
  where
    go : Shown steps at ⊎ ((operand_of steps at ≡ []) × (check_of steps at ≡ Err (refusal NO_OPERAND at))) → (operand_of steps at ≡ [] → check_of steps at ≡ Err (refusal NO_OPERAND at)) × ((r : Refusal) → check_of steps at ≡ Err r → operand_of steps at ≡ [])
    go (inl s) = ((λ q. absurd (some_part steps at s q)), (λ r q. absurd (fine_or_refused s.is_fine q)))
    go (inr e) = ((λ _. e.1), (λ r _. e.0))
