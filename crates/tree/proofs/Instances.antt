-- P3 to P6 of document 01 are instances of groups_as_the_table: each list is without ranges and is read without error and refusal, and its tree is the one of specs/Worked.antt. P8 is a list with a range for which the theorem would be false. Assumes nothing.
use Rattle.std.proofs.Common.{Result, Ok, Err}
use mathlib.Core.Path.{◌≡◌, refl, sym, subst, ap, ◌∙◌}
use mathlib.Core.List.{List, [], ◌∷◌}
use mathlib.Core.Bool.{Bool, true, false}
use Prim.Native.Nat.{ℕ, zero, suc, ◌+◌, ◌*◌}
use native.Mathlib.Omega.{arith}
use lib.ListN.{length, get_or, take, replicate}
use lib.Dec.{eqb, ltb}
use borrow.Author.Tests.{ltb-true}
use Rattle.base.specs.Base.{whether}
use Rattle.base.proofs.Cases.{whether_by}
use Rattle.base.proofs.Laws.{whether_no}
use Rattle.input.specs.SyntaxKind.{EOF, IDENT, INT_NUMBER, AS_KW, DOT, PLUS, MINUS, STAR, EQ, L_ANGLE, FAULT}
use Rattle.input.specs.Input.{Tokens, lent, stands, follow, parts_of, width_of, is_glued, row_of, row_parts, glued_table, present}
use Rattle.reader.specs.Reader as reader
use Rattle.reader.specs.Reader.{consumed_of, steps_of, parse_of}
use Rattle.reader.specs.Worked.{read}
use Rattle.input.specs.declared.Refusal.{Refusal}
use Rattle.reader.specs.declared.Parsed.{Parsed}
use Rattle.input.proofs.Laws.{both_true}
use Rattle.tree.specs.Tree.{Tree, Covers, rest, path, leaves, raws, path_steps, flat}
use Rattle.tree.specs.Grouped.{Grouped, NoRanges}
use Rattle.tree.specs.Statement.{NoErrors, Over, Answer, GroupedTree, GroupsWithRangesToo}
use Rattle.tree.specs.Worked.{Instance, p3, p4, p5, p6, p3', p4', p5', p6', p8, worked}
use Rattle.tree.proofs.Ranges.{only_tree}
use Rattle.tree.proofs.Theorem.{every_answer_is_a_tree}

-- a list without a dot has no two joint ones
abbrev NoDot : List ℕ → Type 0
NoDot [] = Unit {0}
NoDot (x ∷ l) = (eqb x DOT ≡ false) × NoDot l

no_dot_at : (l : List ℕ) (i : ℕ) → NoDot l → eqb (get_or l i EOF) DOT ≡ false
no_dot_at [] i n = refl
no_dot_at (x ∷ l) zero n = n.0
no_dot_at (x ∷ l) (suc i) n = no_dot_at l i n.1

no_stand : (ks js : List ℕ) → NoDot ks → (i : ℕ) → stands (lent ks js) i DOT ≡ false
unfolding stands
no_stand ks js n i = whether_by (λ z. z ≡ false) _ _ _ (λ _. no_dot_at ks i n) (λ _. refl)

no_ranges : (ks js : List ℕ) → NoDot ks → NoRanges (lent ks js)
unfolding present parts_of is_glued row_of row_parts glued_table follow whether
no_ranges ks js n i = sym (whether_no _ _ (no_stand ks js n i) refl)

-- a list that the worked reader reads: its answer
answer_go : (ts : Tokens) (ev st e s : List ℕ) (x : Result Parsed Refusal) → parse_of ts ev st ≡ (x, e, s) → (c : ℕ) (l : List ℕ) → consumed_of x ≡ suc c → take (steps_of x) s ≡ l → NoErrors l → Answer ts (suc c) l
answer_go ts ev st e s (Ok got) q c l p r h = record { events = ev; room = st; many = got.steps; events' = e; room' = s; is_read = q ∙ ap (λ (i : ℕ). (Ok (record { consumed = i; steps = got.steps }), e, s)) p; are_steps = sym r; no_errors = h }
answer_go ts ev st e s (Err f) q c l p r h = absurd (omega arith)

answer : (ks js : List ℕ) (c : ℕ) (l : List ℕ) → read ks js ≡ (suc c, l) → NoErrors l → Answer (lent ks js) (suc c) l
unfolding read
answer ks js c l q h =
    let room : List ℕ = replicate (16 * length ks + 16) 7 in
    let a : reader.Answer = parse_of (lent ks js) room room in
    answer_go (lent ks js) room room a.1 a.2 a.0 refl c l (ap (λ (z : ℕ × List ℕ). z.0) q) (ap (λ (z : ℕ × List ℕ). z.1) q) h

-- the hypotheses of the theorem and its conclusion, with the tree named
pub record Shown (ks js : List ℕ) (t t' : Tree) : Type 0 where
  pub answered : Answer (lent ks js) (length ks) (flat t)
  pub without_ranges : NoRanges (lent ks js)
  pub concluded : GroupedTree (lent ks js) (length ks) (flat t) t
  pub other_does_not : Grouped t' → ⊥

shown : (k : ℕ) (ks js : List ℕ) (t t' : Tree) → Instance (k ∷ ks) js t t' → NoErrors (flat t) → NoDot (k ∷ ks) → Over (lent (k ∷ ks) js) (length (k ∷ ks)) t → Shown (k ∷ ks) js t t'
shown k ks js t t' i h n o =
    record {
      answered = answer (k ∷ ks) js (length ks) (flat t) i.is_read h;
      without_ranges = no_ranges (k ∷ ks) js n;
      concluded = record { is_flat = refl; over = o; groups = i.groups; only = only_tree (lent (k ∷ ks) js) (length (k ∷ ks)) t (no_ranges (k ∷ ks) js n) o i.groups };
      other_does_not = i.other;
    }

pub record Shows : Type 0 where
  pub P3 : Shown (INT_NUMBER ∷ PLUS ∷ INT_NUMBER ∷ STAR ∷ INT_NUMBER ∷ []) (0 ∷ 0 ∷ 0 ∷ 0 ∷ 0 ∷ []) p3 p3'
  pub P4 : Shown (INT_NUMBER ∷ EQ ∷ INT_NUMBER ∷ EQ ∷ INT_NUMBER ∷ []) (0 ∷ 0 ∷ 0 ∷ 0 ∷ 0 ∷ []) p4 p4'
  pub P5 : Shown (INT_NUMBER ∷ L_ANGLE ∷ INT_NUMBER ∷ L_ANGLE ∷ INT_NUMBER ∷ []) (0 ∷ 0 ∷ 0 ∷ 0 ∷ 0 ∷ []) p5 p5'
  pub P6 : Shown (MINUS ∷ INT_NUMBER ∷ AS_KW ∷ IDENT ∷ []) (1 ∷ 0 ∷ 0 ∷ 0 ∷ []) p6 p6'

-- no error step, by computation
unfoldable below : List ℕ → Bool
below [] = true
below (x ∷ l) = whether (ltb x FAULT) (λ _. below l) (λ _. false)

no_errors : (l : List ℕ) → below l ≡ true → NoErrors l
unfolding below
no_errors [] h = tt
no_errors (x ∷ l) h = let b = both_true (ltb x FAULT) (λ _. below l) h in (ltb-true x FAULT b.0, no_errors l b.1)

pub p3_to_p6_are_instances : Shows
unfolding flat path_steps leaves path rest width_of parts_of is_glued row_of row_parts glued_table whether Covers raws present follow stands below
p3_to_p6_are_instances =
    record {
      P3 = shown _ _ _ p3 p3' worked.P3 (no_errors (flat p3) refl) (refl, (refl, (refl, (refl, (refl, tt))))) (record { covers = (refl, (refl, (refl, (refl, (refl, refl))))); in_order = refl });
      P4 = shown _ _ _ p4 p4' worked.P4 (no_errors (flat p4) refl) (refl, (refl, (refl, (refl, (refl, tt))))) (record { covers = (refl, (refl, (refl, (refl, (refl, refl))))); in_order = refl });
      P5 = shown _ _ _ p5 p5' worked.P5 (no_errors (flat p5) refl) (refl, (refl, (refl, (refl, (refl, tt))))) (record { covers = (refl, (refl, (refl, (refl, (refl, refl))))); in_order = refl });
      P6 = shown _ _ _ p6 p6' worked.P6 (no_errors (flat p6) refl) (refl, (refl, (refl, (refl, tt)))) (record { covers = (refl, (refl, (refl, (refl, refl)))); in_order = refl });
    }

-- P8: its steps are those of one tree only, and that one does not group as the table says
abbrev p8_list : Tokens
p8_list = lent (IDENT ∷ EQ ∷ INT_NUMBER ∷ DOT ∷ DOT ∷ PLUS ∷ INT_NUMBER ∷ []) (0 ∷ 0 ∷ 1 ∷ 1 ∷ 0 ∷ 0 ∷ 0 ∷ [])

p8_answer : Answer p8_list 7 (flat p8)
unfolding flat path_steps width_of parts_of is_glued row_of row_parts glued_table whether below
p8_answer = answer _ _ 6 (flat p8) worked.P8_is_read (no_errors (flat p8) refl)

p8_over : Over p8_list 7 p8
unfolding leaves path rest width_of parts_of is_glued row_of row_parts glued_table whether Covers raws present follow stands
p8_over = record { covers = (refl, (refl, (refl, (refl, (refl, (refl, refl)))))); in_order = refl }

pub ranges_are_excluded_for_p8 : GroupsWithRangesToo → ⊥
ranges_are_excluded_for_p8 claim =
    let r = every_answer_is_a_tree p8_list 7 (flat p8) p8_answer in
    let c = claim p8_list 7 (flat p8) p8_answer in
    let same : c.0 ≡ p8 = r.3 c.0 c.1 c.2 ∙ sym (r.3 p8 refl p8_over) in
    worked.P8_groups_otherwise (subst Grouped same c.3)
