-- What each answer of the code is of its rule: for the step at an index, for one step more, for the rest. Assumes nothing.
use Rattle.std.proofs.Common.{Result, Ok, Err}
use mathlib.Core.Path.{◌≡◌, ap, subst, ◌∙◌}
use mathlib.Core.Bool.{true, false}
use mathlib.Core.List.{List, []}
use mathlib.Core.Logic.{⊎_elim}
use Prim.Native.Nat.{ℕ, ◌+◌, ◌-◌, ◌^◌, ◌<◌, ◌≤◌, min}
use native.Mathlib.Omega.{arith}
use native.Mathlib.Numerals.{add-one}
use lib.ListN.{length, get_or, take, drop, length-drop}
use lib.Seq.{take_all}
use lib.Dec.{ltb}
use Rattle.std.specs.List.{zip, enumerate_from}
use Rattle.std.proofs.lemmas.List.{get_or_default}
use Rattle.std.proofs.lemmas.List.FromFn.{length-enumerate_from, get_or-enumerate_from}
use Rattle.std.proofs.lemmas.Slice.Zip.{length-zip, get_or-zip}
use borrow.Author.Tests.{eq-eqb, ne_eqb, lt-ltb, le-ltb, ltb-true, ltb-false}
use Rattle.base.specs.Base.{whether}
use Rattle.input.proofs.Laws.{true_or_false}
use Rattle.input.specs.declared.Refusal.{Refusal}
use Rattle.reader.specs.declared.Parsed.{Parsed}
use Rattle.answers.specs.Text.{refusal_text}
use Rattle.answers.specs.Writer.{Wrote}
use Rattle.answers.specs.declared.Writer.{Writer}
use Rattle.answers.proofs.Writing.{wrote_nothing, wrote_then}
use Rattle.revision.proofs.Exact.{equal_is_same}
use Rattle.revision.specs.Revision.{differ_text, extra_text, step_text, differs_text, extras_text, common_of, rest_of, name_of, first_word, second_word, equal_line, same_of, compared_text, second_text, revisions_text}

module _ {v w : Writer} where
  -- one text for another
  told : {s t : List ℕ} → s ≡ t → Wrote v s w → Wrote v t w
  told q p = subst (λ t. Wrote v t w) q p

-- the step at an index
module _ (a b : List ℕ) (i : ℕ) {x y : ℕ} (p : x ≡ get_or a i 0) (q : y ≡ get_or b i 0) where
  step_same : x ≡ y → [] ≡ step_text a b i
  unfolding step_text whether
  step_same e = rw (← p, ← q, eq-eqb x y e)

  step_other : (x ≡ y → ⊥) → differ_text i x y ≡ step_text a b i
  unfolding step_text whether
  step_other e = rw (← p, ← q, ne_eqb x y e)

  put_same : {v : Writer} → x ≡ y → Wrote v (step_text a b i) v
  put_same {v} e = told (step_same e) (wrote_nothing v)

  put_other : {v w : Writer} → (x ≡ y → ⊥) → Wrote v (differ_text i x y) w → Wrote v (step_text a b i) w
  put_other e h = told (step_other e) h

-- what a loop over both lists has at an index
module _ (a b : List ℕ) where
  pub record PairAt (k i x y : ℕ) : Type 0 where
    pub index : i ≡ k
    pub in_first : x ≡ get_or a k 0
    pub in_second : y ≡ get_or b k 0

  pub pair_at : (k : ℕ) {i x y : ℕ} (d : ℕ × (ℕ × ℕ)) → k < length (enumerate_from 0 (zip a b)) → ◌≡◌ {A = ℕ × (ℕ × ℕ)} (i, (x, y)) (get_or (enumerate_from 0 (zip a b)) k d) → PairAt k i x y
  pair_at k d h q =
      let n : length (enumerate_from 0 (zip a b)) ≡ min (length a) (length b) = length-enumerate_from 0 (zip a b) ∙ length-zip a b in
      let p : k < length a = omega (arith, n, h) in
      let r : k < length b = omega (arith, n, h) in
      let both : k < length (zip a b) = omega (arith, length-zip a b, p, r) in
      let here : ◌≡◌ {A = ℕ × (ℕ × ℕ)} _ (0 + k, (get_or a k 0, get_or b k 0)) =
      q ∙ get_or_default (enumerate_from 0 (zip a b)) k d (0, (0, 0)) h ∙ get_or-enumerate_from 0 (zip a b) k (0, (0, 0)) both ∙ ap {B = ℕ × (ℕ × ℕ)} (λ (z : ℕ × ℕ). (0 + k, z)) (get_or-zip a b k (0, 0) p r) in
      record { index = ap (λ (z : ℕ × (ℕ × ℕ)). z.0) here ∙ (omega arith); in_first = ap (λ (z : ℕ × (ℕ × ℕ)). z.1.0) here; in_second = ap (λ (z : ℕ × (ℕ × ℕ)). z.1.1) here }

-- the differences: none at first, one step more
module _ (a b : List ℕ) where
  pub differs_none : (v : Writer) → Wrote v (differs_text a b 0) v
  unfolding differs_text
  differs_none v = wrote_nothing v

  differs_more : {v m w : Writer} (i : ℕ) → Wrote v (differs_text a b i) m → Wrote m (step_text a b i) w → Wrote v (differs_text a b (i + 1)) w
  unfolding differs_text
  differs_more i h k = rw (add-one i) (wrote_then h k)

  -- by the pair at the index: the same step twice, or two that differ
  pub differs_same : {v m : Writer} {k i x y : ℕ} → PairAt a b k i x y → x ≡ y → Wrote v (differs_text a b k) m → Wrote v (differs_text a b (k + 1)) m
  differs_same {k = k} p e h = differs_more k h (put_same a b k p.in_first p.in_second e)

  pub differs_other : {v m w : Writer} {k i x y : ℕ} → PairAt a b k i x y → (x ≡ y → ⊥) → Wrote v (differs_text a b k) m → Wrote m (differ_text i x y) w → Wrote v (differs_text a b (k + 1)) w
  differs_other {k = k} {x = x} {y = y} p e h d = differs_more k h (put_other a b k p.in_first p.in_second e (told (ap (λ n. differ_text n x y) p.index) d))

-- the extra steps: none at first, one more
module _ (name : List ℕ) (from : ℕ) (rest : List ℕ) where
  pub extras_none : (v : Writer) → Wrote v (extras_text name from rest 0) v
  unfolding extras_text
  extras_none v = wrote_nothing v

  pub extras_more : {v m w : Writer} {x : ℕ} (i : ℕ) → x ≡ get_or rest i 0 → Wrote v (extras_text name from rest i) m → Wrote m (extra_text name (from + i) x) w → Wrote v (extras_text name from rest (i + 1)) w
  unfolding extras_text
  extras_more i q h k = rw (add-one i) (wrote_then h (told (ap (extra_text name (from + i)) q) k))

-- how far both go; the rest of the longer list, and how long it is
module _ (a b : List ℕ) where
  pub common_is : min (length a) (length b) ≡ common_of a b
  unfolding common_of whether
  common_is = ⊎_elim (λ h. rw h (omega (arith, ltb-true (length a) (length b) h))) (λ h. rw h (omega (arith, ltb-false (length a) (length b) h))) (true_or_false (ltb (length a) (length b)))

  -- as many turns as both lists go
  pub turns_are : {n : ℕ} → n ≡ length (enumerate_from 0 (zip a b)) → n ≡ common_of a b
  turns_are e = e ∙ length-enumerate_from 0 (zip a b) ∙ length-zip a b ∙ common_is

  pub rest_second : length a < length b → take (length b - length a) (drop (length a) b) ≡ rest_of a b
  unfolding rest_of whether
  rest_second h = rw (lt-ltb (length a) (length b) h) (take_all (length b - length a) (drop (length a) b) (omega (arith, length-drop (length a) b)))

  pub rest_first : length b ≤ length a → take (length a - length b) (drop (length b) a) ≡ rest_of a b
  unfolding rest_of whether
  rest_first h = rw (le-ltb (length a) (length b) h) (take_all (length a - length b) (drop (length b) a) (omega (arith, length-drop (length b) a)))

-- both lists together go as far as the longer, so the indexes of the rest fit
module _ (a b : List ℕ) where
  common_and_rest : (m : ℕ) → length a < m → length b < m → common_of a b + length (rest_of a b) < m
  unfolding common_of rest_of whether
  common_and_rest m p q = ⊎_elim yes no (true_or_false (ltb (length a) (length b)))
    where
      yes : ltb (length a) (length b) ≡ true → common_of a b + length (rest_of a b) < m
      yes h = rw h (omega (arith, length-drop (length a) b, ltb-true (length a) (length b) h, q))

      no : ltb (length a) (length b) ≡ false → common_of a b + length (rest_of a b) < m
      no h = rw h (omega (arith, length-drop (length b) a, ltb-false (length a) (length b) h, p))

  pub rest_fits : {n : ℕ} {tail : List ℕ} → n ≡ common_of a b → tail ≡ rest_of a b → length a < 2 ^ 64 → length b < 2 ^ 64 → n + length tail < 2 ^ 64
  rest_fits p q h k = rw (p, q) (common_and_rest (2 ^ 64) h k)

  -- the extra steps, under the name of the longer list
  module _ {v w : Writer} {n : ℕ} {tail : List ℕ} (p : n ≡ common_of a b) (q : tail ≡ rest_of a b) where
    pub extra_second : length a < length b → Wrote v (extras_text second_word n tail (length tail)) w → Wrote v (extras_text (name_of a b) (common_of a b) (rest_of a b) (length (rest_of a b))) w
    unfolding name_of whether
    extra_second h k = rw (← p, ← q, lt-ltb (length a) (length b) h) k

    pub extra_first : length b ≤ length a → Wrote v (extras_text first_word n tail (length tail)) w → Wrote v (extras_text (name_of a b) (common_of a b) (rest_of a b) (length (rest_of a b))) w
    unfolding name_of whether
    extra_first h k = rw (← p, ← q, le-ltb (length a) (length b) h) k

  -- the whole text
  same_not : (a ≡ b → ⊥) → same_of a b ≡ false
  same_not h = ⊎_elim (λ q. absurd (h ((equal_is_same a b).0 q))) (λ q. q) (true_or_false (same_of a b))

  pub compared_same : {v w : Writer} → a ≡ b → Wrote v equal_line w → Wrote v (compared_text a b) w
  unfolding compared_text whether
  compared_same p h = rw ((equal_is_same a b).1 p) h

  pub compared_other : {v m w : Writer} {n : ℕ} → (a ≡ b → ⊥) → n ≡ common_of a b → Wrote v (differs_text a b n) m → Wrote m (extras_text (name_of a b) (common_of a b) (rest_of a b) (length (rest_of a b))) w → Wrote v (compared_text a b) w
  unfolding compared_text whether
  compared_other {n = n} p e h k = rw (same_not p) (wrote_then (told (ap (differs_text a b) e) h) k)

-- the text of two answers, by the cases of each
module _ {v w : Writer} where
  pub second_read : (a : List ℕ) (st : List ℕ) {other : Result Parsed Refusal} {got : Parsed} {b : List ℕ} → other ≡ Ok got → b ≡ take got.steps st → Wrote v (compared_text a b) w → Wrote v (second_text a other st) w
  unfolding second_text
  second_read a st q e h = rw (q, ← e) h

  pub second_refused : (a : List ℕ) (st : List ℕ) {other : Result Parsed Refusal} {n : Refusal} → other ≡ Err n → Wrote v (refusal_text n) w → Wrote v (second_text a other st) w
  unfolding second_text
  second_refused a st q h = rw q h

  pub first_read : (st st' : List ℕ) (other : Result Parsed Refusal) {answer : Result Parsed Refusal} {got : Parsed} {a : List ℕ} → answer ≡ Ok got → a ≡ take got.steps st → Wrote v (second_text a other st') w → Wrote v (revisions_text answer st other st') w
  unfolding revisions_text
  first_read st st' other q e h = rw (q, ← e) h

  pub first_refused : (st st' : List ℕ) (other : Result Parsed Refusal) {answer : Result Parsed Refusal} {n : Refusal} → answer ≡ Err n → Wrote v (refusal_text n) w → Wrote v (revisions_text answer st other st') w
  unfolding revisions_text
  first_refused st st' other q h = rw q h
