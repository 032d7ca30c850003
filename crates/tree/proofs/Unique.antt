-- At most one tree groups as the table says over the same leaves: the reader of Again reads every such tree back. Along a tree's left spine the reader arrives at the tree itself, with what follows still to read; an operand is read whole because what follows it is too weak for it. Assumes nothing.
use mathlib.Core.Path.{◌≡◌, refl, sym, subst, ap, ◌∙◌}
use mathlib.Core.List.{List, [], ◌∷◌, ◌++◌, append_assoc}
use mathlib.Core.Bool.{true, false}
use Prim.Native.Nat.{ℕ, zero, suc, ◌+◌, ◌-◌, ◌≤◌, ◌<◌}
use native.Mathlib.Omega.{arith}
use lib.ListN.{drop}
use lib.Dec.{eqb, ltb}
use borrow.Author.Tests.{lt-ltb, le-ltb}
use Rattle.base.specs.Base.{whether, bound, called}
use Rattle.base.proofs.Laws.{whether_yes, whether_no}
use Rattle.input.specs.SyntaxKind.{IDENT, INT_NUMBER, AS_KW, MUT_KW, AWAIT_KW, L_PAREN, R_PAREN, L_BRACK, R_BRACK, COMMA, DOT, AMP, QUESTION, COLON2, STAR, BANG, MINUS}
use Rattle.tree.specs.Tree.{Tree, literal, name, paren, prefix, borrowed, borrowed_mut, binary, cast, bare, up_to, from, between, call, index, try, field, method, await, two_fields, lone, Stem, dotted, pointed, Args, nothing, last, more, Leaf, tok, float, rest, path, leaves, stem_leaves, arg_leaves}
use Rattle.tree.specs.Table.{Associativity, table, holds, has_operator, place_in, place}
use Rattle.tree.specs.Grouped.{rank, field_name, LeftFits, FitsLeft, prefixes, literals, names, Grouped, GroupedStem, GroupedArgs}
use Rattle.tree.proofs.Operators.{floor, floor_at, floor_low, floor_top, place_as, side_as}
use Rattle.tree.proofs.Again.{head_of, power, right_power, Read, names_in, first_of, args_of, dot_of, loop_of, again}
use Rattle.tree.proofs.Rows.{floor_power, power_as, right_rank, numbers, next_weaker, not_kind, outside, not_as}
use Rattle.tree.proofs.Measures.{Plain, PlainStem, PlainArgs, size, stem_size, arg_size, spine, stem_spine, depth, spine_small, depth_small, some_args, some_size, NoPostfix, Weak, limit, After, by_literal, by_prefix, by_name, begins}

-- a path's names
rest_first : (n : ℕ) (r : List Leaf) → rest (suc n) ++ r ≡ tok COLON2 ∷ tok IDENT ∷ (rest n ++ r)
unfolding rest
rest_first zero r = refl
rest_first (suc n) r = append_assoc (rest (suc n)) _ r ∙ rest_first n (tok COLON2 ∷ tok IDENT ∷ r) ∙ ap (λ (l : List Leaf). tok COLON2 ∷ tok IDENT ∷ l) (sym (append_assoc (rest n) _ r))

names_end : (r : List Leaf) → eqb (head_of r) COLON2 ≡ false → names_in r ≡ (0, r)
unfolding names_in
names_end [] h = refl
names_end (x ∷ []) h = refl
names_end (tok k ∷ y ∷ l) h = sym (whether_no _ _ h refl)
names_end (float true ∷ y ∷ l) h = sym (whether_no _ _ h refl)
names_end (float false ∷ y ∷ l) h = sym (whether_no _ _ h refl)

names_in_lem : (n : ℕ) (r : List Leaf) → eqb (head_of r) COLON2 ≡ false → names_in (rest n ++ r) ≡ (n, r)
unfolding names_in rest called whether
names_in_lem zero r h = names_end r h
names_in_lem (suc n) r h = ap names_in (rest_first n r) ∙ ap (λ (z : ℕ × List Leaf). (suc z.0, z.1)) (names_in_lem n r h)

-- closing tokens and the end are weak
record Closers : Type 0 where
  paren : power R_PAREN ≡ 0
  brack : power R_BRACK ≡ 0
  comma : power COMMA ≡ 0
  none : power 0 ≡ 0

closers : Closers
unfolding power place place_in table has_operator holds whether
closers = record { paren = refl; brack = refl; comma = refl; none = refl }

weak_paren : (r : List Leaf) → Weak 1 (tok R_PAREN ∷ r)
weak_paren r = (refl, (refl, refl, refl, refl), omega (arith, closers.paren))

weak_brack : (r : List Leaf) → Weak 1 (tok R_BRACK ∷ r)
weak_brack r = (refl, (refl, refl, refl, refl), omega (arith, closers.brack))

weak_comma : (r : List Leaf) → Weak 1 (tok COMMA ∷ r)
weak_comma r = (refl, (refl, refl, refl, refl), omega (arith, closers.comma))

weak_end : Weak 1 []
weak_end = (refl, (refl, refl, refl, refl), omega (arith, closers.none))

-- every tree holds as tightly as 1 asks
any_rank : (t : Tree) → Plain t → Grouped t → rank t ≤ floor 1
unfolding rank Grouped Plain
any_rank (literal kind) p g = omega (arith, floor_low 1)
any_rank (name n) p g = omega (arith, floor_low 1)
any_rank (paren t) p g = omega (arith, floor_low 1)
any_rank (prefix op t) p g = omega (arith, floor_low 1)
any_rank (borrowed t) p g = omega (arith, floor_low 1)
any_rank (borrowed_mut t) p g = omega (arith, floor_low 1)
any_rank (binary op l r) p g = omega (arith, (numbers op l g.0 g.1).high, floor_at 1 (omega arith))
any_rank (cast l n) p g = omega (arith, place_as, floor_at 1 (omega arith))
any_rank (bare op) p g = absurd p
any_rank (up_to op r) p g = absurd p
any_rank (from op l) p g = absurd p
any_rank (between op l r) p g = absurd p
any_rank (call t args) p g = omega (arith, floor_low 1)
any_rank (index t i) p g = omega (arith, floor_low 1)
any_rank (try t) p g = omega (arith, floor_low 1)
any_rank (field s kind) p g = omega (arith, floor_low 1)
any_rank (method s args) p g = omega (arith, floor_low 1)
any_rank (await s) p g = omega (arith, floor_low 1)
any_rank (two_fields s) p g = omega (arith, floor_low 1)
any_rank (lone s) p g = absurd p

-- what follows an expression read at b may follow the tree
weak_limit : (t : Tree) → Plain t → Grouped t → (b x : ℕ) → b ≤ 255 → rank t ≤ floor b → 5 ≤ rank t → x < b → x < limit t
unfolding rank Grouped Plain limit power
weak_limit (literal kind) p g b x top h k w = absurd (omega arith)
weak_limit (name n) p g b x top h k w = absurd (omega arith)
weak_limit (paren t) p g b x top h k w = absurd (omega arith)
weak_limit (call t args) p g b x top h k w = absurd (omega arith)
weak_limit (index t i) p g b x top h k w = absurd (omega arith)
weak_limit (try t) p g b x top h k w = absurd (omega arith)
weak_limit (field s kind) p g b x top h k w = absurd (omega arith)
weak_limit (method s args) p g b x top h k w = absurd (omega arith)
weak_limit (await s) p g b x top h k w = absurd (omega arith)
weak_limit (two_fields s) p g b x top h k w = absurd (omega arith)
weak_limit (prefix op t) p g b x top h k w = omega arith
weak_limit (borrowed t) p g b x top h k w = omega arith
weak_limit (borrowed_mut t) p g b x top h k w = omega arith
weak_limit (binary op l r) p g b x top h k w = let o = numbers op l g.0 g.1 in omega (arith, o.right_least, floor_power b (place op) (omega (arith, o.low)) o.high h)
weak_limit (cast l n) p g b x top h k w = omega (arith, place_as, floor_power b (place AS_KW) (omega (arith, place_as)) (omega (arith, place_as)) h)
weak_limit (bare op) p g b x top h k w = absurd p
weak_limit (up_to op s) p g b x top h k w = absurd p
weak_limit (from op l) p g b x top h k w = absurd p
weak_limit (between op l s) p g b x top h k w = absurd p
weak_limit (lone s) p g b x top h k w = absurd p

after_weak : (t : Tree) → Plain t → Grouped t → (b : ℕ) → b ≤ 255 → rank t ≤ floor b → (r : List Leaf) → Weak b r → After t r
after_weak t p g b top h r w = record { colons = w.0; named = λ _. w.1.0; weak = λ k. (w.1, weak_limit t p g b (power (head_of r)) top h k w.2) }

-- an operator, or `as`, may follow its left operand
no_postfix : (op : ℕ) (l : Tree) → FitsLeft op l → NoPostfix op
no_postfix op l f = (not_kind op L_PAREN l f outside.paren, not_kind op L_BRACK l f outside.brack, not_kind op QUESTION l f outside.question, not_kind op DOT l f outside.dot)

left_limit : (l : Tree) (op : ℕ) → Plain l → Grouped l → FitsLeft op l → 6 ≤ place op → 5 ≤ rank l → power op < limit l
unfolding rank Grouped Plain limit power
left_limit (literal kind) op p g f h k = absurd (omega arith)
left_limit (name n) op p g f h k = absurd (omega arith)
left_limit (paren t) op p g f h k = absurd (omega arith)
left_limit (call t args) op p g f h k = absurd (omega arith)
left_limit (index t i) op p g f h k = absurd (omega arith)
left_limit (try t) op p g f h k = absurd (omega arith)
left_limit (field s kind) op p g f h k = absurd (omega arith)
left_limit (method s args) op p g f h k = absurd (omega arith)
left_limit (await s) op p g f h k = absurd (omega arith)
left_limit (two_fields s) op p g f h k = absurd (omega arith)
left_limit (prefix o t) op p g f h k = omega arith
left_limit (borrowed t) op p g f h k = omega arith
left_limit (borrowed_mut t) op p g f h k = omega arith
left_limit (binary op2 l2 r2) op p g f h k = next_weaker op op2 l2 r2 h f g.1 g.0
left_limit (cast l n) op p g f h k = omega arith
left_limit (bare o) op p g f h k = absurd p
left_limit (up_to o s) op p g f h k = absurd p
left_limit (from o l) op p g f h k = absurd p
left_limit (between o l s) op p g f h k = absurd p
left_limit (lone s) op p g f h k = absurd p

after_left : (op : ℕ) (l : Tree) (r : List Leaf) → Plain l → Grouped l → FitsLeft op l → 6 ≤ place op → After l (tok op ∷ r)
after_left op l r p g f h = record { colons = not_kind op COLON2 l f outside.colons; named = λ _. not_kind op L_PAREN l f outside.paren; weak = λ k. (no_postfix op l f, left_limit l op p g f h k) }

-- a postfix form may follow what has no prefix
after_tight : (t : Tree) (r : List Leaf) → rank t < 5 → eqb (head_of r) COLON2 ≡ false → (field_name t ≡ IDENT → eqb (head_of r) L_PAREN ≡ false) → After t r
after_tight t r h c n = record { colons = c; named = n; weak = λ k. absurd (omega arith) }

cast_left : (l : Tree) → FitsLeft AS_KW l → rank l ≤ place AS_KW
cast_left l f = subst (λ (s : Associativity). LeftFits s (place AS_KW) (rank l)) side_as f

bracketed : (a : List Leaf) (x : Leaf) (m : List Leaf) (y : Leaf) (r : List Leaf) → (a ++ (x ∷ (m ++ (y ∷ [])))) ++ r ≡ a ++ (x ∷ (m ++ (y ∷ r)))
bracketed a x m y r = append_assoc a (x ∷ (m ++ (y ∷ []))) r ∙ ap (λ (l : List Leaf). a ++ (x ∷ l)) (append_assoc m (y ∷ []) r)

-- a reader that reads trees up to a size
abbrev Reads : ℕ → Read → Type 0
Reads n rd = (t : Tree) → size t ≤ n → Plain t → Grouped t → (b : ℕ) → b ≤ 255 → rank t ≤ floor b → (r : List Leaf) → Weak b r → rd b (leaves t ++ r) ≡ (t, r)

module _ (n : ℕ) (rd : Read) (ih : Reads n rd) where
  args_read : (a : Args) (f : ℕ) → arg_size a ≤ f → arg_size a ≤ n → PlainArgs a → GroupedArgs a → (r : List Leaf) → args_of rd f (arg_leaves a ++ (tok R_PAREN ∷ r)) ≡ (a, tok R_PAREN ∷ r)
  unfolding args_of arg_leaves size Plain Grouped called
  args_read a zero h k p g r = absurd (omega (arith, some_args a))
  args_read nothing (suc f) h k p g r = sym (whether_yes _ _ refl refl)
  args_read (last t) (suc f) h k p g r =
      let e = ih t (omega arith) p g 1 (omega arith) (any_rank t p g) (tok R_PAREN ∷ r) (weak_paren r) in
      sym (whether_no _ _ (begins t p g (tok R_PAREN ∷ r)).0 (whether_no _ _ (ap (λ (z : Tree × List Leaf). eqb (head_of z.1) COMMA) e) (ap (λ (z : Tree × List Leaf). (last z.0, z.1)) (sym e))))
  args_read (more t a) (suc f) h k p g r =
      let q : List Leaf = arg_leaves a ++ (tok R_PAREN ∷ r) in
      let e = ih t (omega arith) p.0 g.0 1 (omega arith) (any_rank t p.0 g.0) (tok COMMA ∷ q) (weak_comma q) in
      ap (args_of rd (suc f)) (append_assoc (leaves t) (tok COMMA ∷ arg_leaves a) (tok R_PAREN ∷ r))
      ∙ sym (whether_no _ _ (begins t p.0 g.0 (tok COMMA ∷ q)).0 (whether_yes _ _ (ap (λ (z : Tree × List Leaf). eqb (head_of z.1) COMMA) e)
      (sym (ap (λ (z : Tree × List Leaf). (more z.0 (args_of rd f (drop 1 z.1)).0, (args_of rd f (drop 1 z.1)).1)) e ∙ ap (λ (z : Args × List Leaf). (more t z.0, z.1)) (args_read a f (omega arith) (omega arith) p.1 g.1 r)))))

  -- first a left part, then the loop at b with so many turns
  abbrev Go : ℕ → ℕ → List Leaf → Tree × List Leaf
  Go b m l = called (first_of rd l) (λ t l1. loop_of rd n b m t l1)

  -- one form behind a tree
  module _ (b K : ℕ) (t : Tree) (r : List Leaf) where
    step_call : (a : Args) → args_of rd n (arg_leaves a ++ (tok R_PAREN ∷ r)) ≡ (a, tok R_PAREN ∷ r) → loop_of rd n b (suc K) t (tok L_PAREN ∷ (arg_leaves a ++ (tok R_PAREN ∷ r))) ≡ loop_of rd n b K (call t a) r
    unfolding loop_of whether bound called
    step_call a h = ap (λ (z : Args × List Leaf). loop_of rd n b K (call t z.0) (drop 1 z.1)) h

    step_index : (i : Tree) → rd 1 (leaves i ++ (tok R_BRACK ∷ r)) ≡ (i, tok R_BRACK ∷ r) → loop_of rd n b (suc K) t (tok L_BRACK ∷ (leaves i ++ (tok R_BRACK ∷ r))) ≡ loop_of rd n b K (index t i) r
    unfolding loop_of whether bound called
    step_index i h = ap (λ (z : Tree × List Leaf). loop_of rd n b K (index t z.0) (drop 1 z.1)) h

    step_try : loop_of rd n b (suc K) t (tok QUESTION ∷ r) ≡ loop_of rd n b K (try t) r
    unfolding loop_of whether bound
    step_try = refl

    step_dot : loop_of rd n b (suc K) t (tok DOT ∷ r) ≡ called (dot_of rd n n (dotted t) r) (λ t1 l1. loop_of rd n b K t1 l1)
    unfolding loop_of whether bound
    step_dot = refl

    step_cast : (k : ℕ) → ltb (power AS_KW) b ≡ false → eqb (head_of r) COLON2 ≡ false → loop_of rd n b (suc K) t (tok AS_KW ∷ (path k ++ r)) ≡ loop_of rd n b K (cast t k) r
    unfolding loop_of bound called path
    step_cast k w c =
        sym (whether_no _ _ refl (whether_no _ _ refl (whether_no _ _ refl (whether_no _ _ refl (whether_no _ _ w (whether_yes _ _ refl
        (ap (λ (z : ℕ × List Leaf). loop_of rd n b K (cast t z.0) z.1) (sym (names_in_lem k r c)))))))))

    step_binary : (op : ℕ) (s : Tree) → NoPostfix op → ltb (power op) b ≡ false → eqb op AS_KW ≡ false → rd (right_power op) (leaves s ++ r) ≡ (s, r) → loop_of rd n b (suc K) t (tok op ∷ (leaves s ++ r)) ≡ loop_of rd n b K (binary op t s) r
    unfolding loop_of bound called
    step_binary op s p w a h =
        sym (whether_no _ _ p.0 (whether_no _ _ p.1 (whether_no _ _ p.2 (whether_no _ _ p.3 (whether_no _ _ w (whether_no _ _ a
        (ap (λ (z : Tree × List Leaf). loop_of rd n b K (binary op t z.0) z.1) (sym h))))))))

  -- none behind what is weak
  step_none : (b K : ℕ) (t : Tree) (r : List Leaf) → Weak b r → loop_of rd n b K t r ≡ (t, r)
  unfolding loop_of bound
  step_none b zero t r w = refl
  step_none b (suc K) t r w = sym (whether_no _ _ w.1.0 (whether_no _ _ w.1.1 (whether_no _ _ w.1.2 (whether_no _ _ w.1.3 (whether_yes _ _ (lt-ltb _ _ w.2) refl)))))

  -- a left part
  first_literal : (k : ℕ) (r : List Leaf) → holds k literals ≡ true → first_of rd (tok k ∷ r) ≡ (literal k, r)
  unfolding first_of whether bound holds
  first_literal k r h = by_literal (λ k. first_of rd (tok k ∷ r) ≡ (literal k, r)) k h refl refl refl refl refl

  first_name : (k : ℕ) (r : List Leaf) → eqb (head_of r) COLON2 ≡ false → first_of rd (path k ++ r) ≡ (name k, r)
  unfolding first_of whether bound called holds path
  first_name k r c = ap (λ (z : ℕ × List Leaf). (name z.0, z.1)) (names_in_lem k r c)

  first_paren : (t : Tree) (r : List Leaf) → rd 1 (leaves t ++ (tok R_PAREN ∷ r)) ≡ (t, tok R_PAREN ∷ r) → first_of rd (tok L_PAREN ∷ (leaves t ++ (tok R_PAREN ∷ r))) ≡ (paren t, r)
  unfolding first_of whether bound called
  first_paren t r h = ap (λ (z : Tree × List Leaf). (paren z.0, drop 1 z.1)) h

  first_prefix : (op : ℕ) (t : Tree) (r : List Leaf) → holds op prefixes ≡ true → rd 255 (leaves t ++ r) ≡ (t, r) → first_of rd (tok op ∷ (leaves t ++ r)) ≡ (prefix op t, r)
  unfolding first_of whether bound called holds
  first_prefix op t r p h =
      let e : (k : ℕ) → ◌≡◌ {A = Tree × List Leaf} (prefix k (rd 255 (leaves t ++ r)).0, (rd 255 (leaves t ++ r)).1) (prefix k t, r) = λ k. ap (λ (z : Tree × List Leaf). (prefix k z.0, z.1)) h in
      by_prefix (λ k. first_of rd (tok k ∷ (leaves t ++ r)) ≡ (prefix k t, r)) op p (e STAR) (e BANG) (e MINUS)

  first_mut : (t : Tree) (r : List Leaf) → rd 255 (leaves t ++ r) ≡ (t, r) → first_of rd (tok AMP ∷ tok MUT_KW ∷ (leaves t ++ r)) ≡ (borrowed_mut t, r)
  unfolding first_of whether bound called
  first_mut t r h = ap (λ (z : Tree × List Leaf). (borrowed_mut z.0, z.1)) h

  first_borrow : (t : Tree) (r : List Leaf) → eqb (head_of (leaves t ++ r)) MUT_KW ≡ false → rd 255 (leaves t ++ r) ≡ (t, r) → first_of rd (tok AMP ∷ (leaves t ++ r)) ≡ (borrowed t, r)
  unfolding first_of bound called
  first_borrow t r m h = sym (whether_no _ _ refl (whether_yes _ _ refl (whether_no _ _ m (ap (λ (z : Tree × List Leaf). (borrowed z.0, z.1)) (sym h)))))

  -- a left part, and then the loop stands at it
  arrives : (b K : ℕ) (t : Tree) (l r : List Leaf) → first_of rd l ≡ (t, r) → Go b K l ≡ loop_of rd n b K t r
  unfolding called
  arrives b K t l r h = ap (λ (z : Tree × List Leaf). loop_of rd n b K z.0 z.1) h

  along : (b K : ℕ) (t : Tree) (l l' r : List Leaf) → l ≡ l' → {m : ℕ} → m ≡ K → first_of rd l' ≡ (t, r) → Go b m l ≡ loop_of rd n b K t r
  along b K t l l' r p {m} q h = ap (λ (x : List Leaf). Go b m x) p ∙ ap (λ (i : ℕ). Go b i l') q ∙ arrives b K t l' r h

  -- one form more on the spine
  onto : (b K m : ℕ) (l l' : List Leaf) (x : Tree × List Leaf) → l ≡ l' → Go b (m + suc K) l' ≡ x → Go b (suc m + K) l ≡ x
  onto b K m l l' x p h = let q : suc m + K ≡ m + suc K = omega arith in ap (λ (y : List Leaf). Go b (suc m + K) y) p ∙ ap (λ (i : ℕ). Go b i l') q ∙ h

  -- a name behind a stem
  named_by : (b K : ℕ) (x : Tree × List Leaf) (t : Tree) (r : List Leaf) → x ≡ (t, r) → called x (λ t l1. loop_of rd n b K t l1) ≡ loop_of rd n b K t r
  unfolding called
  named_by b K x t r h = ap (λ (z : Tree × List Leaf). loop_of rd n b K z.0 z.1) h

  tight_weak : (r : List Leaf) → eqb (head_of r) COLON2 ≡ false → NoPostfix (head_of r) × (power (head_of r) < 255) → Weak 255 r
  tight_weak r c w = (c, w.0, w.1)

  -- behind a stem
  module _ (k : ℕ) (s : Stem) (r : List Leaf) where
    dot_point : dot_of rd n (suc k) s (float true ∷ r) ≡ dot_of rd n k (pointed s) r
    unfolding dot_of whether bound
    dot_point = refl

    dot_two : dot_of rd n (suc k) s (float false ∷ r) ≡ (two_fields s, r)
    unfolding dot_of whether bound
    dot_two = refl

    dot_await : dot_of rd n (suc k) s (tok AWAIT_KW ∷ r) ≡ (await s, r)
    unfolding dot_of whether bound
    dot_await = refl

    dot_method : (a : Args) → args_of rd n (arg_leaves a ++ (tok R_PAREN ∷ r)) ≡ (a, tok R_PAREN ∷ r) → dot_of rd n (suc k) s (tok IDENT ∷ tok L_PAREN ∷ (arg_leaves a ++ (tok R_PAREN ∷ r))) ≡ (method s a, r)
    unfolding dot_of whether bound called
    dot_method a h = ap (λ (z : Args × List Leaf). (method s z.0, drop 1 z.1)) h

    dot_ident : eqb (head_of r) L_PAREN ≡ false → dot_of rd n (suc k) s (tok IDENT ∷ r) ≡ (field s IDENT, r)
    unfolding dot_of bound
    dot_ident c = sym (whether_no _ _ refl (whether_no _ _ refl (whether_no _ _ refl (whether_yes _ _ refl (whether_no _ _ c refl)))))

    dot_int : dot_of rd n (suc k) s (tok INT_NUMBER ∷ r) ≡ (field s INT_NUMBER, r)
    unfolding dot_of whether bound
    dot_int = refl

    dot_field : (kind : ℕ) → holds kind names ≡ true → (kind ≡ IDENT → eqb (head_of r) L_PAREN ≡ false) → dot_of rd n (suc k) s (tok kind ∷ r) ≡ (field s kind, r)
    dot_field kind h = by_name (λ j. (j ≡ IDENT → eqb (head_of r) L_PAREN ≡ false) → dot_of rd n (suc k) s (tok j ∷ r) ≡ (field s j, r)) kind h (λ c. dot_ident (c refl)) (λ _. dot_int)

  -- along the left spine
  mutual
    unfolding leaves size spine Plain Grouped rank depth field_name limit

    reach : (t : Tree) → size t ≤ suc n → Plain t → Grouped t → (b : ℕ) → b ≤ 255 → rank t ≤ floor b → (K : ℕ) (r : List Leaf) → After t r → Go b (spine t + K) (leaves t ++ r) ≡ loop_of rd n b K t r
    reach (literal kind) z p g b top h K r a = along b K (literal kind) _ _ r refl (omega arith) (first_literal kind r g)
    reach (name k) z p g b top h K r a = along b K (name k) _ _ r refl (omega arith) (first_name k r a.colons)
    reach (paren t) z p g b top h K r a =
        along b K (paren t) _ (tok L_PAREN ∷ (leaves t ++ (tok R_PAREN ∷ r))) r (ap (λ (l : List Leaf). tok L_PAREN ∷ l) (append_assoc (leaves t) (tok R_PAREN ∷ []) r)) (omega arith)
        (first_paren t r (ih t (omega arith) p g 1 (omega arith) (any_rank t p g) (tok R_PAREN ∷ r) (weak_paren r)))
    reach (prefix op t) z p g b top h K r a = along b K (prefix op t) _ _ r refl (omega arith) (first_prefix op t r g.0 (ih t (omega arith) p g.2 255 (omega arith) (omega (arith, g.1, floor_top)) r (tight_weak r a.colons (a.weak (omega arith)))))
    reach (borrowed t) z p g b top h K r a = along b K (borrowed t) _ _ r refl (omega arith) (first_borrow t r (begins t p g.1 r).1 (ih t (omega arith) p g.1 255 (omega arith) (omega (arith, g.0, floor_top)) r (tight_weak r a.colons (a.weak (omega arith)))))
    reach (borrowed_mut t) z p g b top h K r a = along b K (borrowed_mut t) _ _ r refl (omega arith) (first_mut t r (ih t (omega arith) p g.1 255 (omega arith) (omega (arith, g.0, floor_top)) r (tight_weak r a.colons (a.weak (omega arith)))))
    reach (binary op l s) z p g b top h K r a =
        let o = numbers op l g.0 g.1 in
        onto b K (spine l) _ (leaves l ++ (tok op ∷ (leaves s ++ r))) _ (append_assoc (leaves l) (tok op ∷ leaves s) r)
        (reach l (omega arith) p.0 g.3 b top (omega (arith, o.of_left)) (suc K) (tok op ∷ (leaves s ++ r)) (after_left op l _ p.0 g.3 g.1 (omega (arith, o.low)))
        ∙ step_binary b K l r op s (no_postfix op l g.1) (le-ltb (power op) b (omega (arith, o.is_power, floor_power b (place op) (omega (arith, o.low)) o.high h))) (not_as op g.0)
        (ih s (omega arith) p.1 g.4 (right_power op) (omega (arith, o.right_most)) (right_rank op s g.0 g.2) r (a.colons, (a.weak (omega (arith, o.low))).0, (a.weak (omega (arith, o.low))).1)))
    reach (cast l k) z p g b top h K r a =
        onto b K (spine l) _ (leaves l ++ (tok AS_KW ∷ (path k ++ r))) _ (append_assoc (leaves l) (tok AS_KW ∷ path k) r)
        (reach l (omega arith) p g.1 b top (omega (arith, cast_left l g.0)) (suc K) (tok AS_KW ∷ (path k ++ r)) (after_left AS_KW l _ p g.1 g.0 (omega (arith, place_as)))
        ∙ step_cast b K l r k (le-ltb (power AS_KW) b (omega (arith, power_as, place_as, floor_power b (place AS_KW) (omega (arith, place_as)) (omega (arith, place_as)) h))) a.colons)
    reach (bare op) z p g b top h K r a = absurd p
    reach (up_to op s) z p g b top h K r a = absurd p
    reach (from op l) z p g b top h K r a = absurd p
    reach (between op l s) z p g b top h K r a = absurd p
    reach (call t args) z p g b top h K r a =
        onto b K (spine t) _ (leaves t ++ (tok L_PAREN ∷ (arg_leaves args ++ (tok R_PAREN ∷ r)))) _ (bracketed (leaves t) (tok L_PAREN) (arg_leaves args) (tok R_PAREN) r)
        (reach t (omega arith) p.0 g.2 b top (omega (arith, g.0, floor_low b)) (suc K) _ (after_tight t _ g.0 refl (λ e. absurd (g.1 e)))
        ∙ step_call b K t r args (args_read args n (omega arith) (omega arith) p.1 g.3 r))
    reach (index t i) z p g b top h K r a =
        onto b K (spine t) _ (leaves t ++ (tok L_BRACK ∷ (leaves i ++ (tok R_BRACK ∷ r)))) _ (bracketed (leaves t) (tok L_BRACK) (leaves i) (tok R_BRACK) r)
        (reach t (omega arith) p.0 g.1 b top (omega (arith, g.0, floor_low b)) (suc K) _ (after_tight t _ g.0 refl (λ e. refl))
        ∙ step_index b K t r i (ih i (omega arith) p.1 g.2 1 (omega arith) (any_rank i p.1 g.2) (tok R_BRACK ∷ r) (weak_brack r)))
    reach (try t) z p g b top h K r a =
        onto b K (spine t) _ (leaves t ++ (tok QUESTION ∷ r)) _ (append_assoc (leaves t) (tok QUESTION ∷ []) r)
        (reach t (omega arith) p g.1 b top (omega (arith, g.0, floor_low b)) (suc K) _ (after_tight t _ g.0 refl (λ e. refl)) ∙ step_try b K t r)
    reach (field s kind) z p g b top h K r a =
        ap (Go b (stem_spine s + K)) (append_assoc (stem_leaves s) (tok kind ∷ []) r)
        ∙ reach_stem s (omega arith) p g.1 b top K (suc (n - depth s - 1)) (omega (arith, depth_small s)) (tok kind ∷ r)
        ∙ named_by b K _ (field s kind) r (dot_field (n - depth s - 1) s r kind g.0 a.named)
    reach (method s args) z p g b top h K r a =
        ap (Go b (stem_spine s + K)) (append_assoc (stem_leaves s) _ r ∙ ap (λ (l : List Leaf). stem_leaves s ++ (tok IDENT ∷ tok L_PAREN ∷ l)) (append_assoc (arg_leaves args) (tok R_PAREN ∷ []) r))
        ∙ reach_stem s (omega arith) p.0 g.0 b top K (suc (n - depth s - 1)) (omega (arith, depth_small s)) (tok IDENT ∷ tok L_PAREN ∷ (arg_leaves args ++ (tok R_PAREN ∷ r)))
        ∙ named_by b K _ (method s args) r (dot_method (n - depth s - 1) s r args (args_read args n (omega arith) (omega arith) p.1 g.1 r))
    reach (await s) z p g b top h K r a =
        ap (Go b (stem_spine s + K)) (append_assoc (stem_leaves s) (tok AWAIT_KW ∷ []) r)
        ∙ reach_stem s (omega arith) p g b top K (suc (n - depth s - 1)) (omega (arith, depth_small s)) (tok AWAIT_KW ∷ r)
        ∙ named_by b K _ (await s) r (dot_await (n - depth s - 1) s r)
    reach (two_fields s) z p g b top h K r a =
        ap (Go b (stem_spine s + K)) (append_assoc (stem_leaves s) (float false ∷ []) r)
        ∙ reach_stem s (omega arith) p g b top K (suc (n - depth s - 1)) (omega (arith, depth_small s)) (float false ∷ r)
        ∙ named_by b K _ (two_fields s) r (dot_two (n - depth s - 1) s r)
    reach (lone s) z p g b top h K r a = absurd p

    reach_stem : (s : Stem) → stem_size s ≤ n → PlainStem s → GroupedStem s → (b : ℕ) → b ≤ 255 → (K k : ℕ) → depth s + k ≡ n → (r : List Leaf) → Go b (stem_spine s + K) (stem_leaves s ++ r) ≡ called (dot_of rd n k s r) (λ t l1. loop_of rd n b K t l1)
    reach_stem (dotted t) z p g b top K k e r =
        let q : n ≡ k = omega arith in
        onto b K (spine t) _ (leaves t ++ (tok DOT ∷ r)) _ (append_assoc (leaves t) (tok DOT ∷ []) r)
        (reach t (omega arith) p g.1 b top (omega (arith, g.0, floor_low b)) (suc K) (tok DOT ∷ r) (after_tight t _ g.0 refl (λ e. refl)) ∙ step_dot b K t r)
        ∙ ap (λ (i : ℕ). called (dot_of rd n i (dotted t) r) (λ t l1. loop_of rd n b K t l1)) q
    reach_stem (pointed s) z p g b top K k e r =
        ap (Go b (stem_spine s + K)) (append_assoc (stem_leaves s) (float true ∷ []) r)
        ∙ reach_stem s (omega arith) p g b top K (suc k) (omega arith) (float true ∷ r)
        ∙ ap (λ (x : Tree × List Leaf). called x (λ t l1. loop_of rd n b K t l1)) (dot_point k s r)

  -- so an expression is read whole
  reads_on : (t : Tree) → size t ≤ suc n → Plain t → Grouped t → (b : ℕ) → b ≤ 255 → rank t ≤ floor b → (r : List Leaf) → Weak b r → Go b n (leaves t ++ r) ≡ (t, r)
  reads_on t z p g b top h r w =
      let q : n ≡ spine t + (n - spine t) = omega (arith, spine_small t) in
      ap (λ (i : ℕ). Go b i (leaves t ++ r)) q ∙ reach t z p g b top h (n - spine t) r (after_weak t p g b top h r w) ∙ step_none b (n - spine t) t r w

reads_back : (n : ℕ) → Reads n (again n)
unfolding again
reads_back zero t z p g b top h r w = absurd (omega (arith, some_size t))
reads_back (suc n) t z p g b top h r w = reads_on n (again n) (reads_back n) t z p g b top h r w

-- at most one plain tree that groups has the leaves
pub plain_unique : (t t' : Tree) → Plain t → Plain t' → Grouped t → Grouped t' → leaves t ≡ leaves t' → t ≡ t'
plain_unique t t' p p' g g' e =
    let n : ℕ = size t + size t' in
    let x : again n 1 (leaves t ++ []) ≡ (t, []) = reads_back n t (omega arith) p g 1 (omega arith) (any_rank t p g) [] weak_end in
    let y : again n 1 (leaves t' ++ []) ≡ (t', []) = reads_back n t' (omega arith) p' g' 1 (omega arith) (any_rank t' p' g') [] weak_end in
    ap (λ (z : Tree × List Leaf). z.0) (sym x ∙ ap (λ (l : List Leaf). again n 1 (l ++ [])) e ∙ y)
