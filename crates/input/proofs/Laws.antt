-- What callers use of the tokens lent: a range test as bounds, a kind that stands as a position inside, and "its parts follow one another, all but the last joint" for any list of parts.
-- By induction on the parts. Assumes nothing.
use Rattle.std.proofs.Common.{Ok, Err}
use mathlib.Core.Path.{◌≡◌, refl, sym, ap, subst, ◌∙◌}
use mathlib.Core.Bool.{Bool, true, false}
use mathlib.Core.List.{List, [], ◌∷◌}
use mathlib.Core.Logic.{◌⊎◌, inl, inr, ⊎_elim}
use Prim.Native.Nat.{ℕ, zero, suc, ◌+◌, ◌-◌, ◌<◌, ◌≤◌}
use native.Mathlib.Omega.{arith}
use lib.Dec.{ltb, leb, eqb}
use lib.ListN.{length, get_or, get_or-eq_default}
use borrow.Author.Tests.{ltb-true, ltb-false, leb-true, eqb-true, lt-ltb, le-leb, eq-eqb}
use Rattle.base.specs.Base.{whether, bound}
use Rattle.input.specs.SyntaxKind.{EOF, IDENT, QUESTION, MINUSEQ, SHREQ}
use Rattle.input.specs.Input.{Tokens, kind_at, joint_at, stands, within, is_raw, is_glued, is_joint, follow, row_of, row_parts, parts_of, width_of, width_limit, present, ahead, on_checked}
use Rattle.input.specs.declared.Refusal.{Refusal}
use Rattle.input.specs.Input.{Checked}
use Rattle.input.specs.declared.Glued.{Glued}
use Rattle.base.proofs.Laws.{whether_yes, whether_no}
use Rattle.base.proofs.Cases.{whether_by}

-- both of two tests
pub both_true : (b : Bool) (f : Unit {0} → Bool) → whether b f (λ _. false) ≡ true → (b ≡ true) × (f tt ≡ true)
unfolding whether
both_true true f h = (refl, h)
both_true false f h = let z : ◌≡◌ {A = ℕ} 0 1 = cc in absurd (omega arith)

pub true_both : (b : Bool) (f : Unit {0} → Bool) → b ≡ true → f tt ≡ true → whether b f (λ _. false) ≡ true
unfolding whether
true_both true f p q = q
true_both false f p q = p

pub true_or_false : (b : Bool) → (b ≡ true) ⊎ (b ≡ false)
true_or_false true = inl refl
true_or_false false = inr refl

pub not_both : (b : Bool) → b ≡ true → b ≡ false → ⊥
not_both b p q = let z : ◌≡◌ {A = ℕ} 0 1 = cc in omega arith

-- a range test says bounds
pub within_bounds : (low high x : ℕ) → within low high x ≡ true → (low ≤ x) × (x ≤ high)
within_bounds low high x h =
    let p = both_true (leb low x) (λ _. leb x high) h in
    (leb-true low x p.0, leb-true x high p.1)

pub bounds_within : (low high x : ℕ) → low ≤ x → x ≤ high → within low high x ≡ true
bounds_within low high x p q = true_both (leb low x) (λ _. leb x high) (le-leb low x p) (le-leb x high q)

pub raw_bounds : (k : ℕ) → is_raw k ≡ true → (IDENT ≤ k) × (k ≤ QUESTION)
unfolding is_raw
raw_bounds k h = within_bounds IDENT QUESTION k h

pub bounds_raw : (k : ℕ) → IDENT ≤ k → k ≤ QUESTION → is_raw k ≡ true
unfolding is_raw
bounds_raw k p q = bounds_within IDENT QUESTION k p q

pub glued_bounds : (k : ℕ) → is_glued k ≡ true → (MINUSEQ ≤ k) × (k ≤ SHREQ)
unfolding is_glued
glued_bounds k h = within_bounds MINUSEQ SHREQ k h

pub joint_bound : (j : ℕ) → is_joint j ≡ true → j ≤ 1
unfolding is_joint
joint_bound j h = (within_bounds 0 1 j h).1

pub bound_joint : (j : ℕ) → j ≤ 1 → is_joint j ≡ true
unfolding is_joint
bound_joint j h = bounds_within 0 1 j (omega arith) h

-- no kind is raw and glued
pub raw_not_glued : (k : ℕ) → is_raw k ≡ true → is_glued k ≡ false
raw_not_glued k h = ⊎_elim (λ q. absurd (omega (arith, raw_bounds k h, glued_bounds k q))) (λ q. q) (true_or_false (is_glued k))

-- a kind other than EOF stands inside the list
pub kind_inside : (ts : Tokens) (at : ℕ) → (kind_at ts at ≡ EOF → ⊥) → at < length ts.kinds
kind_inside ts at h =
    ⊎_elim (λ q. ltb-true _ _ q) (λ q. absurd (h (get_or-eq_default ts.kinds EOF (ltb-false _ _ q)))) (true_or_false (ltb at (length ts.kinds)))

-- a kind stands at a position: that is inside the list, and the kind there is that kind
pub record Stood (ts : Tokens) (at kind : ℕ) : Type 0 where
  pub inside : at < length ts.kinds
  pub same : kind_at ts at ≡ kind

pub stands_says : (ts : Tokens) (at kind : ℕ) → stands ts at kind ≡ true → Stood ts at kind
unfolding stands
stands_says ts at kind h =
    let p = both_true (ltb at (length ts.kinds)) (λ _. eqb (kind_at ts at) kind) h in
    record { inside = ltb-true _ _ p.0; same = eqb-true _ _ p.1 }

pub says_stands : (ts : Tokens) (at kind : ℕ) → Stood ts at kind → stands ts at kind ≡ true
unfolding stands
says_stands ts at kind s = true_both (ltb at (length ts.kinds)) (λ _. eqb (kind_at ts at) kind) (lt-ltb _ _ s.inside) (eq-eqb _ _ s.same)

-- "A glued token is present when its parts follow one another, all but the last joint."
pub record Follows (ts : Tokens) (at : ℕ) (parts : List ℕ) : Type 0 where
  pub stand : (i : ℕ) → i < length parts → Stood ts (at + i) (get_or parts i EOF)
  pub touch : (i : ℕ) → suc i < length parts → joint_at ts (at + i) ≡ 1

module _ (ts : Tokens) where
  first_here : (at part : ℕ) → Stood ts at part → Stood ts (at + 0) part
  first_here at part s = let e : at ≡ at + 0 = omega arith in subst (λ n. Stood ts n part) e s

  here : (at part : ℕ) → Stood ts (at + 0) part → Stood ts at part
  here at part s = let e : at + 0 ≡ at = omega arith in subst (λ n. Stood ts n part) e s

  later : (at i part : ℕ) → Stood ts (at + 1 + i) part → Stood ts (at + suc i) part
  later at i part s = let e : at + 1 + i ≡ at + suc i = omega arith in subst (λ n. Stood ts n part) e s

  sooner : (at i part : ℕ) → Stood ts (at + suc i) part → Stood ts (at + 1 + i) part
  sooner at i part s = let e : at + suc i ≡ at + 1 + i = omega arith in subst (λ n. Stood ts n part) e s

  pub follow_says : (at : ℕ) (parts : List ℕ) → follow ts at parts ≡ true → Follows ts at parts
  unfolding follow
  follow_says at [] h = record { stand = λ i q. absurd (omega arith); touch = λ i q. absurd (omega arith) }
  follow_says at (a ∷ []) h = record { stand = stand; touch = λ i q. absurd (omega arith) }
    where
      stand : (i : ℕ) → i < 1 → Stood ts (at + i) (get_or (a ∷ []) i EOF)
      stand zero q = first_here at a (stands_says ts at a h)
      stand (suc i) q = absurd (omega arith)
  follow_says at (a ∷ b ∷ ps) h = more (follow_says (at + 1) (b ∷ ps)) (both_true (stands ts at a) _ h)
    where
      more : (follow ts (at + 1) (b ∷ ps) ≡ true → Follows ts (at + 1) (b ∷ ps)) → (stands ts at a ≡ true) × (whether (eqb (joint_at ts at) 1) (λ _. follow ts (at + 1) (b ∷ ps)) (λ _. false) ≡ true) → Follows ts at (a ∷ b ∷ ps)
      more rest p = record { stand = stand; touch = touch }
        where
          q : (eqb (joint_at ts at) 1 ≡ true) × (follow ts (at + 1) (b ∷ ps) ≡ true)
          q = both_true (eqb (joint_at ts at) 1) (λ _. follow ts (at + 1) (b ∷ ps)) p.1

          stand : (i : ℕ) → i < length (a ∷ b ∷ ps) → Stood ts (at + i) (get_or (a ∷ b ∷ ps) i EOF)
          stand zero l = first_here at a (stands_says ts at a p.0)
          stand (suc i) l = later at i _ ((rest q.1).stand i (omega arith))

          touch : (i : ℕ) → suc i < length (a ∷ b ∷ ps) → joint_at ts (at + i) ≡ 1
          touch zero l = let e : at + 0 ≡ at = omega arith in rw e (eqb-true _ _ q.0)
          touch (suc i) l = let e : at + suc i ≡ at + 1 + i = omega arith in rw e ((rest q.1).touch i (omega arith))

  pub says_follow : (at : ℕ) (parts : List ℕ) → Follows ts at parts → follow ts at parts ≡ true
  unfolding follow
  says_follow at [] f = refl
  says_follow at (a ∷ []) f = says_stands ts at a (here at a (f.stand 0 (omega arith)))
  says_follow at (a ∷ b ∷ ps) f =
      true_both (stands ts at a) _ (says_stands ts at a (here at a (f.stand 0 (omega arith))))
      (true_both (eqb (joint_at ts at) 1) (λ _. follow ts (at + 1) (b ∷ ps)) (eq-eqb _ _ (touches (f.touch 0 (omega arith))))
      (says_follow (at + 1) (b ∷ ps) (record { stand = λ i l. sooner at i _ (f.stand (suc i) (omega arith)); touch = λ i l. let e : at + 1 + i ≡ at + suc i = omega arith in rw e (f.touch (suc i) (omega arith)) })))
    where
      touches : joint_at ts (at + 0) ≡ 1 → joint_at ts at ≡ 1
      touches q = let e : at ≡ at + 0 = omega arith in rw e q

-- the parts of a kind: those of its row, or the kind itself
pub parts_glued : (kind : ℕ) → is_glued kind ≡ true → parts_of kind ≡ row_parts (row_of kind)
unfolding parts_of
parts_glued kind h = sym (whether_yes _ _ h refl)

pub parts_raw : (kind : ℕ) → is_glued kind ≡ false → parts_of kind ≡ kind ∷ []
unfolding parts_of
parts_raw kind h = sym (whether_no _ _ h refl)

-- "present" in the document's words, for every kind
pub present_says : (ts : Tokens) (at kind : ℕ) → present ts at kind ≡ true → Follows ts at (parts_of kind)
unfolding present
present_says ts at kind h = follow_says ts at (parts_of kind) h

pub says_present : (ts : Tokens) (at kind : ℕ) → Follows ts at (parts_of kind) → present ts at kind ≡ true
unfolding present
says_present ts at kind f = says_follow ts at (parts_of kind) f

pub present_raw : (ts : Tokens) (at kind : ℕ) → is_glued kind ≡ false → present ts at kind ≡ stands ts at kind
unfolding present follow
present_raw ts at kind h = rw (parts_raw kind h)

pub raw_width : (kind : ℕ) → is_glued kind ≡ false → width_of kind ≡ 1
unfolding width_of
raw_width kind h = ap length (parts_raw kind h)

-- "width 2 or 3": the raw width of a kind is 1, or that of its parts
parts_two_or_three : (row : Glued) → (length (row_parts row) ≡ 2) ⊎ (length (row_parts row) ≡ 3)
unfolding row_parts
parts_two_or_three row = whether_by (λ (parts : List ℕ). (length parts ≡ 2) ⊎ (length parts ≡ 3)) (eqb row.width.0 2) _ _ (λ q. inl refl) (λ q. inr refl)

pub glued_width : (kind : ℕ) → is_glued kind ≡ true → (width_of kind ≡ 2) ⊎ (width_of kind ≡ 3)
unfolding width_of
glued_width kind h = rw (parts_glued kind h) (parts_two_or_three (row_of kind))

pub width_bounds : (kind : ℕ) → (1 ≤ width_of kind) × (width_of kind ≤ 3)
width_bounds kind =
    ⊎_elim (λ q. ⊎_elim (λ w. (omega arith, omega arith)) (λ w. (omega arith, omega arith)) (glued_width kind q)) (λ q. let w = raw_width kind q in (omega arith, omega arith)) (true_or_false (is_glued kind))

pub width_limit_lem : (kind : ℕ) → width_of kind ≤ width_limit
unfolding width_limit
width_limit_lem kind = (width_bounds kind).1

-- what is present stands inside the list
pub present_inside : (ts : Tokens) (at kind : ℕ) → present ts at kind ≡ true → at + width_of kind ≤ length ts.kinds
unfolding width_of
present_inside ts at kind h =
    let b : 1 ≤ length (parts_of kind) = (width_bounds kind).0 in
    omega (arith, ((present_says ts at kind h).stand (length (parts_of kind) - 1) (omega arith)).inside)

-- "the (up to three) tokens from the position on": no more than are left
pub ahead_left : (ts : Tokens) (at : ℕ) → ahead ts at ≤ length ts.kinds - at
unfolding ahead bound
ahead_left ts at =
    whether_by (λ n. n ≤ length ts.kinds - at) (ltb (length ts.kinds - at) width_limit) _ _ (λ q. omega arith) (λ q. ltb-false _ _ q)

-- what follows a check, from its answer
module _ {A : Type 0} (fine : Unit {0} → A) (refused : Refusal → A) {out : A} {r c : Checked} where
  pub on_fine : r ≡ c → r ≡ Ok tt → out ≡ fine tt → out ≡ on_checked c fine refused
  unfolding on_checked
  on_fine p q h = h ∙ ap (λ z. on_checked z fine refused) (sym q ∙ p)

  pub on_refused : {x : Refusal} → r ≡ c → r ≡ Err x → out ≡ refused x → out ≡ on_checked c fine refused
  unfolding on_checked
  on_refused p q h = h ∙ ap (λ z. on_checked z fine refused) (sym q ∙ p)

pub ruleset checks = (on_fine, on_refused)

-- P holds after a check where it holds after each answer
pub checked_by : {A : Type 0} (P : A → Type 0) (c : Checked) (fine : Unit {0} → A) (refused : Refusal → A) → (c ≡ Ok tt → P (fine tt)) → ((x : Refusal) → c ≡ Err x → P (refused x)) → P (on_checked c fine refused)
unfolding on_checked
checked_by P (Ok _) fine refused f g = f refl
checked_by P (Err x) fine refused f g = g x refl
