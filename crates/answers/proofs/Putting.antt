-- Laws of `Put`: nothing put, and one text after another; a text for which there is room stands whole; any two that are put agree.
-- By the lengths of what stands there already. Assumes nothing.
use Prim.Native.Nat.{ℕ, zero, suc, ◌+◌, ◌-◌, ◌/◌, ◌≤◌, ◌<◌, min}
use mathlib.Core.Path.{◌≡◌, refl, sym, ◌∙◌, ap}
use mathlib.Core.Bool.{Bool, true, false}
use mathlib.Core.List.{List, [], ◌∷◌, ◌++◌, append_assoc, append-nil}
use native.Mathlib.Numerals.{add-one, unary_clauses}
use native.Mathlib.Omega.{arith}
use borrow.Author.Tests.{leb-true, leb-false, lt-ltb, le-ltb}
use lib.Dec.{leb}
use lib.ListN.{length, take, drop, get_or, length-take, length-append, take-append-drop}
use lib.Seq.{take_all, take-append-le, take-take, take-suc, drop-drop}
use Rattle.base.specs.Base.{whether}
use Rattle.answers.specs.Text.{Put, base, digit_of, digits_of, lines_of, line_of}

-- cutting twice is cutting once
cut_again : (l : ℕ) (xs ys : List ℕ) → take l (take l xs ++ ys) ≡ take l (xs ++ ys)
cut_again l xs ys = go (leb l (length xs)) refl
  where
    go : (b : Bool) → leb l (length xs) ≡ b → take l (take l xs ++ ys) ≡ take l (xs ++ ys)
    go true q =
        let h : l ≤ length xs = omega (arith, leb-true l (length xs) q) in
        let k : l ≤ length (take l xs) = rw length-take (omega arith) in
        let m : l ≤ l = omega arith in
        take-append-le l (take l xs) ys k ∙ take-take l l xs m ∙ sym (take-append-le l xs ys h)
    go false q =
        let h : length xs ≤ l = omega (arith, leb-false l (length xs) q) in
        rw (take_all l xs h)

-- what stands before a place is not cut
before : (out : List ℕ) (at : ℕ) → take (length out) (take at out) ≡ take at out
before out at = take_all (length out) (take at out) (rw length-take (omega arith))

pub put_nothing : (out : List ℕ) (at : ℕ) → Put out at [] at out
put_nothing out at =
    record { same_length = refl; onward = omega arith; within = λ h. h; beyond = λ _. refl; stands = rw (append-nil, before); rest = refl }

-- what is the same from a place on is the same from a later place on
later : (a b : List ℕ) (m r : ℕ) → m ≤ r → drop m a ≡ drop m b → drop r a ≡ drop r b
later a b m r h e =
    let further : m + (r - m) ≡ r = omega arith in
    let both : drop (m + (r - m)) a ≡ drop (m + (r - m)) b = rw (← drop-drop (r - m) m a, ← drop-drop (r - m) m b, e) in
    rw further at both

pub put_then : {out mid after : List ℕ} {at m r : ℕ} {xs ys : List ℕ} → Put out at xs m mid → Put mid m ys r after → Put out at (xs ++ ys) r after
put_then {out} {mid} {after} {at} {m} {r} {xs} {ys} p q =
    let joined : take (length out) (take (length out) (take at out ++ xs) ++ ys) ≡ take (length out) (take at out ++ (xs ++ ys)) =
    cut_again (length out) (take at out ++ xs) ys ∙ ap (λ (l : List ℕ). take (length out) l) (append_assoc (take at out) xs ys) in
    record {
      same_length = q.same_length ∙ p.same_length;
      onward = omega (arith, p.onward, q.onward);
      within = λ h.
          let k : m ≤ length mid = rw p.same_length (p.within h) in
          rw p.same_length at (q.within k);
      beyond = λ h.
          let e : m ≡ at = p.beyond h in
          let k : length mid ≤ m = omega (arith, p.same_length) in
          q.beyond k ∙ e;
      stands = rw (p.same_length, p.stands) at q.stands ∙ joined;
      rest = q.rest ∙ later mid out m r q.onward p.rest;
    }

-- a text for which there is room stands whole
pub put_whole : {out after : List ℕ} {at r : ℕ} {text : List ℕ} → at + length text ≤ length out → Put out at text r after
    → (r ≡ at + length text) × (take r after ≡ take at out ++ text)
put_whole {out} {after} {at} {r} {text} h p =
    let fits : length (take at out ++ text) ≤ length out = simp (length-append, length-take) (omega arith) in
    let all : take r after ≡ take at out ++ text = p.stands ∙ take_all _ _ fits in
    let inside : at ≤ length out = omega arith in
    let counted : min r (length after) ≡ min at (length out) + length text = simp (length-take, length-append) at (ap length all) in
    (omega (arith, p.within inside, p.same_length), all)

-- the inputs alone decide where the text ends, and the list
pub put_agrees : {out a b : List ℕ} {at r s : ℕ} {text : List ℕ} → Put out at text r a → Put out at text s b → (r ≡ s) × (a ≡ b)
put_agrees {out} {a} {b} {at} {r} {s} p q = (same, whole)
  where
    same : r ≡ s
    same =
        let counted : min r (length a) ≡ min s (length b) = simp length-take at (ap length (p.stands ∙ sym q.stands)) in
        go (leb at (length out)) refl counted
      where
        go : (t : Bool) → leb at (length out) ≡ t → min r (length a) ≡ min s (length b) → r ≡ s
        go true e counted =
            let h : at ≤ length out = omega (arith, leb-true at (length out) e) in
            omega (arith, p.within h, q.within h, p.same_length, q.same_length)
        go false e counted =
            let h : length out ≤ at = omega (arith, leb-false at (length out) e) in
            omega (arith, p.beyond h, q.beyond h)

    whole : a ≡ b
    whole =
        let front : take r a ≡ take r b = p.stands ∙ sym q.stands ∙ ap (λ (k : ℕ). take k b) (sym same) in
        let back : drop r a ≡ drop r b = p.rest ∙ ap (λ (k : ℕ). drop k out) same ∙ sym q.rest ∙ ap (λ (k : ℕ). drop k b) (sym same) in
        sym (take-append-drop r a) ∙ ap (λ (l : List ℕ). l ++ drop r a) front ∙ ap (λ (l : List ℕ). take r b ++ l) back ∙ take-append-drop r b

-- one more line
pub lines_more : (xs : List ℕ) (i : ℕ) → i < length xs → lines_of (take (i + 1) xs) ≡ lines_of (take i xs) ++ line_of (get_or xs i 0)
unfolding lines_of
lines_more xs i h = rw (add-one, take-suc xs i 0 h) (lines_last (take i xs) (get_or xs i 0))
  where
    lines_last : (ys : List ℕ) (x : ℕ) → lines_of (ys ++ (x ∷ [])) ≡ lines_of ys ++ line_of x
    lines_last [] x = append-nil (line_of x)
    lines_last (y ∷ ys) x = rw (lines_last ys x) (sym (append_assoc (line_of y) (lines_of ys) (line_of x)))

-- steps that are put line by line
pub line_more : {out mid after : List ℕ} {at m r x : ℕ} (xs : List ℕ) (i : ℕ) → i < length xs → x ≡ get_or xs i 0 → Put out at (lines_of (take i xs)) m mid → Put mid m (line_of x) r after
    → Put out at (lines_of (take (i + 1) xs)) r after
line_more xs i h e p q = rw (lines_more xs i h, ← e) (put_then p q)

-- the digits of a number, the last one put last
pub no_place : {out : List ℕ} {at : ℕ} (n most : ℕ) → most ≡ 0 → Put out at (digits_of most n) at out
unfolding digits_of
no_place n zero h = put_nothing _ _
no_place n (suc k) h = absurd (omega arith)

pub one_digit : {out after : List ℕ} {at r n d : ℕ} (most : ℕ) → (most ≡ 0 → ⊥) → n < base → d ≡ digit_of n → Put out at (d ∷ []) r after → Put out at (digits_of most n) r after
unfolding digits_of whether
one_digit zero h l e p = absurd (h refl)
one_digit {n = n} (suc k) h l e p = rw (lt-ltb n base l, ← e) p

pub more_digits : {out mid after : List ℕ} {at m r n d : ℕ} (most : ℕ) → (most ≡ 0 → ⊥) → base ≤ n → d ≡ digit_of n → Put out at (digits_of (most - 1) (n / base)) m mid
    → Put mid m (d ∷ []) r after → Put out at (digits_of most n) r after
unfolding digits_of whether
more_digits zero h l e p q = absurd (h refl)
more_digits {n = n} (suc k) h l e p q = rw (le-ltb n base l, ← e) (put_then (simp unary_clauses at p) q)
