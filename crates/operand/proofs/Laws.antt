-- What a turn of the way to the matching leave is, by what the code has for its parts. Assumes nothing.
use Rattle.std.proofs.Common.{Ok, Err}
use mathlib.Core.Path.{◌≡◌, refl, sym, subst, ◌∙◌}
use mathlib.Core.Bool.{Bool, true, false}
use mathlib.Core.List.{List, []}
use Prim.Native.Nat.{ℕ, ◌+◌, ◌-◌, ◌<◌, ◌≤◌}
use native.Mathlib.Omega.{arith}
use lib.Dec.{ltb}
use lib.ListN.{length, get_or, take, drop, length-drop, get_or-eq_default}
use Rattle.std.proofs.lemmas.List.{take_all, get_or-drop}
use borrow.Author.Tests.{ltb-true, ltb-false, lt-ltb, le-ltb, le-leb, lt-leb, ne_eqb}
use Rattle.base.specs.Base.{whether, bound, again, done}
use Rattle.base.proofs.Laws.{Rest, rest_start, rest_done, rest_again}
use Rattle.input.specs.Input.{refusal}
use Rattle.operand.specs.Operand.{NO_OPERAND, is_enter, leaves_of, match_turn, match_of, end_of, operand_of, check_of}

module _ (steps : List ℕ) (i nodes : ℕ) where
  pub match_end : length steps ≤ i → done 0 ≡ match_turn steps (i, nodes)
  unfolding match_turn whether
  match_end l = rw (le-ltb i (length steps) l)

  module _ {x : ℕ} (p : x ≡ get_or steps i 0) (l : i < length steps) {b : Bool} (q : b ≡ is_enter x) where
    pub match_enter : b ≡ true → again (i + 1, nodes + 1) ≡ match_turn steps (i, nodes)
    unfolding match_turn bound whether
    match_enter z = rw (lt-ltb i (length steps) l, ← p, ← q, z)

    pub match_done : {k : ℕ} → b ≡ false → k ≡ leaves_of x → nodes ≤ k → done (i + 1) ≡ match_turn steps (i, nodes)
    unfolding match_turn bound whether
    match_done {k} z r h = rw (lt-ltb i (length steps) l, ← p, ← q, z, ← r, le-leb nodes k h)

    pub match_on : {k : ℕ} → b ≡ false → k ≡ leaves_of x → k < nodes → again (i + 1, nodes - k) ≡ match_turn steps (i, nodes)
    unfolding match_turn bound whether
    match_on {k} z r h = rw (lt-ltb i (length steps) l, ← p, ← q, z, ← r, lt-leb nodes k h)

-- what is left of the way to the matching leave, when so many nodes are open at an index
abbrev pub IsOnTheWay : List ℕ → ℕ → ℕ → ℕ → Type 0
IsOnTheWay steps at i nodes = Rest (match_turn steps) 0 (λ z. length steps - z.0) (match_of steps at) (i, nodes)

pub way_start : (steps : List ℕ) (at i : ℕ) → i ≡ at + 1 → IsOnTheWay steps at i 1
unfolding match_of
way_start steps at i e = rw e (rest_start _ _ _ _ _ (omega arith))

-- the steps behind an index, as the loop goes over them
abbrev pub steps_behind : List ℕ → ℕ → List ℕ
steps_behind steps n = take (length steps - n) (drop n steps)

behind_all : (steps : List ℕ) (n : ℕ) → steps_behind steps n ≡ drop n steps
behind_all steps n = take_all _ _ (rw length-drop (omega arith))

pub step_behind : (steps : List ℕ) (n k : ℕ) → get_or (steps_behind steps n) k 0 ≡ get_or steps (n + k) 0
step_behind steps n k = rw (behind_all steps n, get_or-drop)

pub many_behind : (steps : List ℕ) (n : ℕ) → length (steps_behind steps n) ≡ length steps - n
many_behind steps n = rw (behind_all steps n, length-drop)

-- one turn of it, at the k-th step behind the place
module _ (steps : List ℕ) (at k nodes : ℕ) (w : IsOnTheWay steps at (at + 1 + k) nodes) where
  pub way_out : length (steps_behind steps (at + 1)) ≤ k → match_of steps at ≡ 0
  way_out l =
      let past : length steps ≤ at + 1 + k = omega (arith, many_behind steps (at + 1)) in
      sym (rest_done _ _ _ _ _ w (match_end steps (at + 1 + k) nodes past))

  module _ (l : k < length (steps_behind steps (at + 1))) {b : Bool} (q : b ≡ is_enter (get_or (steps_behind steps (at + 1)) k 0)) where
    within : at + 1 + k < length steps
    within = omega (arith, many_behind steps (at + 1))

    here : get_or (steps_behind steps (at + 1)) k 0 ≡ get_or steps (at + 1 + k) 0
    here = step_behind steps (at + 1) k

    on : (more : ℕ) → again (at + 1 + k + 1, more) ≡ match_turn steps (at + 1 + k, nodes) → IsOnTheWay steps at (at + 1 + (k + 1)) more
    on more e =
        let further : at + 1 + k + 1 ≡ at + 1 + (k + 1) = omega arith in
        subst (λ i. IsOnTheWay steps at i more) further (rest_again _ _ _ _ _ _ w e (omega (arith, within)))

    pub way_enter : b ≡ true → IsOnTheWay steps at (at + 1 + (k + 1)) (nodes + 1)
    way_enter z = on (nodes + 1) (match_enter steps (at + 1 + k) nodes here within q z)

    pub way_done : {n : ℕ} → b ≡ false → n ≡ leaves_of (get_or (steps_behind steps (at + 1)) k 0) → nodes ≤ n → at + k + 2 ≡ match_of steps at
    way_done z r h =
        let e : at + k + 2 ≡ at + 1 + k + 1 = omega arith in
        e ∙ rest_done _ _ _ _ _ w (match_done steps (at + 1 + k) nodes here within q z r h)

    pub way_on : {n : ℕ} → b ≡ false → n ≡ leaves_of (get_or (steps_behind steps (at + 1)) k 0) → n < nodes → IsOnTheWay steps at (at + 1 + (k + 1)) (nodes - n)
    way_on {n} z r h = on (nodes - n) (match_on steps (at + 1 + k) nodes here within q z r h)

-- the end, by what stands at the place
module _ (steps : List ℕ) (at : ℕ) {x : ℕ} (p : x ≡ get_or steps at 0) {b : Bool} (q : b ≡ is_enter x) where
  pub end_entered : b ≡ true → end_of steps at ≡ match_of steps at
  unfolding end_of whether
  end_entered z = rw (← p, ← q, z)

  pub end_other : b ≡ false → end_of steps at ≡ 0
  unfolding end_of whether
  end_other z = rw (← p, ← q, z)

-- past the end of the list nothing is entered
pub entered_inside : (steps : List ℕ) (at : ℕ) → is_enter (get_or steps at 0) ≡ true → at < length steps
unfolding is_enter whether
entered_inside steps at h = go (ltb at (length steps)) refl
  where
    go : (b : Bool) → ltb at (length steps) ≡ b → at < length steps
    go true l = ltb-true at (length steps) l
    go false l = let none : false ≡ true = rw (get_or-eq_default steps 0 (ltb-false at (length steps) l)) at h in absurd cc

-- without an end the part is empty
pub part_none : (steps : List ℕ) (at : ℕ) → end_of steps at ≡ 0 → [] ≡ operand_of steps at
unfolding operand_of
part_none steps at p = let z : end_of steps at - at ≡ 0 = omega (arith, p) in rw z

pub part_some : (steps : List ℕ) (at : ℕ) {e : ℕ} → e ≡ end_of steps at → take (e - at) (drop at steps) ≡ operand_of steps at
unfolding operand_of
part_some steps at p = rw p

-- the check, by the end
pub check_none : (steps : List ℕ) (at : ℕ) → end_of steps at ≡ 0 → Err (refusal NO_OPERAND at) ≡ check_of steps at
unfolding check_of whether
check_none steps at p = rw p

pub check_fine : (steps : List ℕ) (at : ℕ) → (end_of steps at ≡ 0 → ⊥) → Ok tt ≡ check_of steps at
unfolding check_of whether
check_fine steps at p = rw (ne_eqb (end_of steps at) 0 p)
