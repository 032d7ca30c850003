-- Tokens of the lent list: a kind that is present is its raw parts where it stands, inside the list, and the checks of a call leave only fit bytes at the position. Assumes nothing.
use Rattle.std.proofs.Common.{Ok}
use mathlib.Core.Path.{◌≡◌, refl, ◌∙◌}
use mathlib.Core.Bool.{Bool, true}
use mathlib.Core.List.{List, [], ◌∷◌, ◌++◌, append_assoc, append-nil}
use Prim.Native.Nat.{ℕ, zero, suc, ◌+◌, ◌-◌, ◌≤◌, ◌<◌}
use native.Mathlib.Omega.{arith}
use native.Mathlib.Numerals.{add-one}
use lib.ListN.{length, get_or, take, drop}
use lib.Seq.{drop-cons, take-add}
use lib.Dec.{ltb, leb, eqb}
use borrow.Author.Tests.{ltb-false, leb-true, eq-eqb, lt-ltb}
use Rattle.base.specs.Base.{whether}
use Rattle.base.proofs.Cases.{whether_by, bound_by}
use Rattle.input.specs.SyntaxKind.{FLOAT_NUMBER, SHREQ, PATH_TYPE, EXPECTED_COMMA}
use Rattle.input.specs.Input.{Tokens, token_limit, width_limit, kind_at, stands, is_glued, row_of, row_parts, parts_of, width_of, follow, present, is_raw, is_kind, is_node, is_code, first_off, lengths_of, bytes_of, ahead, Checked}
use Rattle.input.proofs.Laws.{both_true, within_bounds, raw_bounds, raw_not_glued, parts_raw, stands_says}
use Rattle.demand.specs.Lists.{gather}
use Rattle.demand.specs.Runs.{Tok, tok, float}
use Rattle.demand.specs.Demand.{Covers, raws_of}

-- so many raw tokens from p on are l
abbrev pub Stand : Tokens → ℕ → List ℕ → Type 0
Stand ts p l = (p + length l ≤ length ts.kinds) × (take (length l) (drop p ts.kinds) ≡ l)

stand_cons : (ts : Tokens) (p k : ℕ) (l : List ℕ) → stands ts p k ≡ true → (p + 1 + length l ≤ length ts.kinds) × (take (length l) (drop (p + 1) ts.kinds) ≡ l) → Stand ts p (k ∷ l)
stand_cons ts p k l q s =
    let h = stands_says ts p k q in
    (omega (arith, h.inside), rw (drop-cons ts.kinds p 0 h.inside, h.same, ← add-one p, s.1))

pub stand_one : (ts : Tokens) (p k : ℕ) → stands ts p k ≡ true → Stand ts p (k ∷ [])
stand_one ts p k q = stand_cons ts p k [] q (omega (arith, (stands_says ts p k q).inside), refl)

follow_stand : (ts : Tokens) (p k : ℕ) (l : List ℕ) → follow ts p (k ∷ l) ≡ true → Stand ts p (k ∷ l)
unfolding follow
follow_stand ts p k [] q = stand_one ts p k q
follow_stand ts p k (a ∷ l) q =
    let b = both_true _ _ q in
    stand_cons ts p k (a ∷ l) b.0 (follow_stand ts (p + 1) a l (both_true _ _ b.1).1)

-- the raw parts of a kind that is present
pub present_stand : (ts : Tokens) (p k : ℕ) → present ts p k ≡ true → Stand ts p (parts_of k)
unfolding present parts_of row_parts
present_stand ts p k =
    let P : List ℕ → Type 0 = λ l. follow ts p l ≡ true → Stand ts p l in
    whether_by P (is_glued k) _ _
    (λ _. whether_by P (eqb (row_of k).width.0 2) _ _ (λ _ q. follow_stand ts p _ _ q) (λ _ q. follow_stand ts p _ _ q))
    (λ _ q. follow_stand ts p _ _ q)

-- tokens that stand one after the other: they end inside the list, and their raw kinds are those of the list
raws_on : (l : List ℕ) (p : ℕ) (xs ys : List ℕ) → take (length xs) (drop p l) ≡ xs → take p l ++ (xs ++ ys) ≡ take (p + length xs) l ++ ys
raws_on l p xs ys q = rw (take-add, q, append_assoc)

pub covers_raws : (ts : Tokens) (p q : ℕ) (l : List Tok) → p ≤ length ts.kinds → Covers ts p l q → (q ≤ length ts.kinds) × (take p ts.kinds ++ gather raws_of l ≡ take q ts.kinds)
unfolding width_of
covers_raws ts p q [] h c = (omega (arith, c), rw (append-nil, c))
covers_raws ts p q (tok k w ∷ l) h c =
    let s = present_stand ts p k c.0 in
    let e : w ≡ length (parts_of k) = c.1 in
    let r = covers_raws ts (p + w) q l (omega arith) c.2 in
    (r.0, raws_on ts.kinds p (parts_of k) (gather raws_of l) s.1 ∙ rw (← e) r.1)
covers_raws ts p q (float d ∷ l) h c =
    let s = stand_one ts p FLOAT_NUMBER c.0 in
    let r = covers_raws ts (p + 1) q l (omega (arith, s.0)) c.2 in
    (r.0, raws_on ts.kinds p (FLOAT_NUMBER ∷ []) (gather raws_of l) s.1 ∙ r.1)

pub covers_append : (ts : Tokens) (p q s : ℕ) (l m : List Tok) → Covers ts p l q → Covers ts q m s → Covers ts p (l ++ m) s
covers_append ts p q s [] m c d = rw c d
covers_append ts p q s (tok k w ∷ l) m c d = (c.0, c.1, covers_append ts (p + w) q s l m c.2 d)
covers_append ts p q s (float b ∷ l) m c d = (c.0, c.1, covers_append ts (p + 1) q s l m c.2 d)

-- what fits is small
pub node_small : (k : ℕ) → is_node k ≡ true → k ≤ PATH_TYPE
unfolding is_node
node_small k q = (within_bounds _ _ k q).1

pub code_small : (k : ℕ) → is_code k ≡ true → k ≤ EXPECTED_COMMA
unfolding is_code
code_small k q = (within_bounds _ _ k q).1

pub kind_small : (k : ℕ) → is_kind k ≡ true → k ≤ SHREQ
unfolding is_kind is_glued
kind_small k = whether_by (λ b. b ≡ true → k ≤ SHREQ) (is_raw k) _ _ (λ r _. omega (arith, (raw_bounds k r).1)) (λ _ q. (within_bounds _ _ k q).1)

pub raw_present : (ts : Tokens) (p : ℕ) → p < length ts.kinds → is_raw (kind_at ts p) ≡ true → (present ts p (kind_at ts p) ≡ true) × (1 ≡ width_of (kind_at ts p))
unfolding present width_of follow stands whether
raw_present ts p h r = rw (parts_raw (kind_at ts p) (raw_not_glued (kind_at ts p) r), lt-ltb p (length ts.kinds) h) (eq-eqb (kind_at ts p) (kind_at ts p) refl, refl)

-- the checks of a call
pub lengths_fine : (ts : Tokens) → lengths_of ts ≡ Ok tt → length ts.kinds ≤ token_limit
unfolding lengths_of
lengths_fine ts =
    let P : Checked → Type 0 = λ r. r ≡ Ok tt → length ts.kinds ≤ token_limit in
    whether_by P (eqb (length ts.kinds) (length ts.joints)) _ _
    (λ _. whether_by P (leb (length ts.kinds) token_limit) _ _ (λ h _. leb-true _ _ h) (λ _ q. absurd (let z : ◌≡◌ {A = ℕ} 0 1 = cc in omega arith)))
    (λ _ q. absurd (let z : ◌≡◌ {A = ℕ} 0 1 = cc in omega arith))

first_on : (fine : ℕ → Bool) (l : List ℕ) (p k : ℕ) → p + suc k ≤ first_off fine l p (suc k) → fine (get_or l p 0) ≡ true
unfolding first_off
first_on fine l p k = whether_by (λ i. p + suc k ≤ i → fine (get_or l p 0) ≡ true) (fine (get_or l p 0)) _ _ (λ q _. q) (λ _ h. absurd (omega arith))

bytes_fine : (ts : Tokens) (p k : ℕ) → bytes_of ts p (suc k) ≡ Ok tt → is_raw (kind_at ts p) ≡ true
unfolding bytes_of
bytes_fine ts p k =
    let P : Checked → Type 0 = λ r. r ≡ Ok tt → is_raw (kind_at ts p) ≡ true in
    bound_by P (first_off is_raw ts.kinds p (suc k)) _
    (whether_by P (ltb (first_off is_raw ts.kinds p (suc k)) (p + suc k)) _ _
    (λ _ q. absurd (let z : ◌≡◌ {A = ℕ} 0 1 = cc in omega arith))
    (λ h q. first_on is_raw ts.kinds p k (ltb-false _ _ h)))

-- where a token stands at the position, at least one is looked at
ahead_some : (ts : Tokens) (p : ℕ) → p < length ts.kinds → 0 < ahead ts p
unfolding ahead width_limit
ahead_some ts p h =
    bound_by (λ n. 0 < n) (length ts.kinds - p) _
    (whether_by (λ n. 0 < n) (ltb (length ts.kinds - p) 3) _ _ (λ _. omega arith) (λ _. omega arith))

pub looked_raw : (ts : Tokens) (p : ℕ) → p < length ts.kinds → bytes_of ts p (ahead ts p) ≡ Ok tt → is_raw (kind_at ts p) ≡ true
looked_raw ts p h q = go (ahead ts p) refl
  where
    go : (n : ℕ) → ahead ts p ≡ n → is_raw (kind_at ts p) ≡ true
    go zero e = absurd (omega (arith, ahead_some ts p h))
    go (suc k) e = bytes_fine ts p k (rw e at q)
