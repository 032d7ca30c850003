-- The pass over the lent lists writes the steps of the events that are seen, first in the step list. Assumes nothing.
use mathlib.Core.Path.{◌≡◌, refl, sym, subst, ◌∙◌}
use mathlib.Core.Bool.{Bool, true, false, false≢true}
use mathlib.Core.List.{List, [], ◌∷◌, ◌++◌, map, map-append}
use Prim.Native.Nat.{ℕ, zero, suc, ◌+◌, ◌≤◌, ◌<◌}
use native.Mathlib.Omega.{arith}
use native.Mathlib.Nat.{add-zero, zero-add}
use native.Mathlib.Numerals.{add-one}
use lib.ListN.{length, get_or, set, take, drop, length-map, length-append}
use lib.Seq.{sets, length-take-le, drop-append-add}
use lib.Dec.{ltb, eqb}
use borrow.Author.Tests.{ltb-true, ltb-false, eqb-true, eqb-false, eq-eqb, lt-ltb, le-ltb}
use Rattle.base.specs.Base.{whether, Next, again, done, loops}
use Rattle.base.proofs.Laws.{whether_yes, whether_no, called_is, bound_is, loops_done, loops_again}
use Rattle.input.specs.SyntaxKind.{FLOAT_SPLIT}
use Rattle.event.specs.Event.{Event, finish, START, TOKEN_TAG, SPLIT_TAG, ERROR_TAG, tag_of, rank_of, flag_of, node_of, view}
use Rattle.process.specs.Process.{steps_at, chain_of, enter_of, step_of, process_turn, write_of}
use Rattle.demand.specs.Steps.{Step, enter, leave, taken, parted, fault, code_of}
use Rattle.demand.proofs.Events.{is_split, next}
use Rattle.demand.proofs.Pass.{names, clear, own, chain, pass, steps}
use Rattle.demand.proofs.Chain.{chain_none}
use Rattle.demand.proofs.Seen.{view_by}
use Rattle.demand.proofs.Entering.{chain_head, sets_append, sees, sees_length, sees_past, sees_at, Entered, count_is, enter_is}

pass_nil : (k : ℕ) (c : Bool) → pass k c [] ≡ []
unfolding pass
pass_nil zero c = refl
pass_nil (suc k) c = refl

pass_cons : (k : ℕ) (c : Bool) (e : Event) (es : List Event) → pass (suc k) c (e ∷ es) ≡ map enter ((chain es (next e)).0 ++ names e) ++ (own c e ++ pass k (is_split e) (chain es (next e)).1)
unfolding pass
pass_cons k c e es = refl

-- steps written one part after the other
abbrev Wrote : ℕ → List ℕ → List Step → ℕ × List ℕ
Wrote m st ss = (m + length ss, sets st m (map code_of ss))

wrote_on : (m : ℕ) (st : List ℕ) (xs ys : List Step) → ◌≡◌ {A = ℕ × List ℕ} (m + length xs + length ys, sets (sets st m (map code_of xs)) (m + length xs) (map code_of ys)) (m + length (xs ++ ys), sets st m (map code_of (xs ++ ys)))
wrote_on m st xs ys =
    let e : m + length (xs ++ ys) ≡ m + length xs + length ys = omega (arith, length-append xs ys) in
    rw (e, map-append, sets_append, length-map)

pass_out : (n i m : ℕ) (c : Bool) (ev st : List ℕ) → n ≤ i → done (m, st) ≡ process_turn n (i, m, c, ev, st)
unfolding process_turn
pass_out n i m c ev st h = whether_no _ _ (le-ltb i n h) refl

written_past : (k n i m : ℕ) (c : Bool) (ev st : List ℕ) (d : ℕ × List ℕ) → n ≤ length ev → n ≤ i → (j : ℕ) → loops (suc k) (process_turn n) d (i, m, c, ev, st) ≡ (m + length (pass j c (drop i (sees n ev))), sets st m (map code_of (pass j c (drop i (sees n ev)))))
written_past k n i m c ev st d l h j = loops_done k (process_turn n) d (i, m, c, ev, st) (pass_out n i m c ev st h) ∙ rw (sees_past n ev l i h, pass_nil, add-zero)

abbrev Turn : Type 0
Turn = Next (ℕ × ℕ × Bool × List ℕ × List ℕ) (ℕ × List ℕ)

-- a turn at a start, and at any other event: its own step, if it has one
module _ (n i m : ℕ) (c : Bool) (ev st : List ℕ) (l : n ≤ length ev) (h : i < n) where
  abbrev x : ℕ
  x = get_or ev i 0

  turn_start : eqb (tag_of x) START ≡ true
      → again (i + 1, m + chain_of ev n i, false, (enter_of ev st n i (m + chain_of ev n i)).0, (enter_of ev st n i (m + chain_of ev n i)).1) ≡ process_turn n (i, m, c, ev, st)
  unfolding process_turn
  turn_start q = whether_yes _ _ (lt-ltb i n h) (bound_is _ refl (whether_yes _ _ q (bound_is _ refl (called_is _ refl refl))))

  module _ (q : eqb (tag_of x) START ≡ false) where
    turn_step : (s : Step) (b : Bool) → steps_at c x ≡ 1 → code_of s ≡ step_of x → b ≡ eqb (tag_of x) SPLIT_TAG → again (i + 1, m + 1, b, ev, set st m (code_of s)) ≡ process_turn n (i, m, c, ev, st)
    unfolding process_turn
    turn_step s b one code after = whether_yes _ _ (lt-ltb i n h) (bound_is _ refl (whether_no _ _ q (whether_yes _ _ (eq-eqb _ _ one) (rw (code, after)))))

    turn_none : steps_at c x ≡ 0 → again (i + 1, m + 0, false, ev, st) ≡ process_turn n (i, m, c, ev, st)
    unfolding process_turn
    turn_none none = whether_yes _ _ (lt-ltb i n h) (bound_is _ refl (whether_no _ _ q (whether_no _ _ (rw none) (rw add-zero))))

    flag_code : code_of (parted (eqb (flag_of x) 1)) ≡ FLOAT_SPLIT + flag_of x
    flag_code = go (eqb (flag_of x) 1) refl
      where
        go : (b : Bool) → eqb (flag_of x) 1 ≡ b → code_of (parted (eqb (flag_of x) 1)) ≡ FLOAT_SPLIT + flag_of x
        go true q = rw (q, eqb-true (flag_of x) 1 q)
        go false q = let z : flag_of x ≡ 0 = omega (arith, eqb-false (flag_of x) 1 q) in rw (q, z)

    turn_other : again (i + 1, m + length (own c (view x)), is_split (view x), ev, sets st m (map code_of (own c (view x)))) ≡ process_turn n (i, m, c, ev, st)
    unfolding steps_at step_of whether
    turn_other = view_by x (λ e. ◌≡◌ {A = Turn} (again (i + 1, m + length (own c e), is_split e, ev, sets st m (map code_of (own c e)))) (process_turn n (i, m, c, ev, st)))
        (λ p. absurd (false≢true (sym q ∙ p)))
        (λ _ p. turn_step (taken (node_of x) (rank_of x)) false (rw (q, p)) (rw p) (rw (eqb-true (tag_of x) TOKEN_TAG p)))
        (λ _ p r. turn_step (parted (eqb (flag_of x) 1)) true (rw (q, p, r)) (flag_code ∙ rw (p, r)) (sym r))
        (λ _ p r t. turn_step (fault (node_of x)) false (rw (q, p, r, t)) (rw (p, r, t)) (sym r))
        (λ _ p r t. go c refl p r t)
      where
        Gone : Bool → Type 0
        Gone b = ◌≡◌ {A = Turn} (again (i + 1, m + length (own b finish), false, ev, sets st m (map code_of (own b finish)))) (process_turn n (i, m, c, ev, st))

        go : (b : Bool) → c ≡ b → eqb (tag_of x) TOKEN_TAG ≡ false → eqb (tag_of x) SPLIT_TAG ≡ false → eqb (tag_of x) ERROR_TAG ≡ false → Gone c
        go true z p r t = subst Gone (sym z) (turn_none (rw (q, p, r, t, z)))
        go false z p r t = subst Gone (sym z) (turn_step leave false (rw (q, p, r, t, z)) (rw (p, r, t)) (sym r))

-- a start's turn leaves the chain's names written and its starts cleared
start_left : (n i m : ℕ) (ev st : List ℕ) → n ≤ length ev → Entered n i m ev st (enter_of ev st n i (m + chain_of ev n i))
unfolding enter_of chain_of
start_left n i m ev st l = enter_is n n i _ m ev st (ev, st) l (omega arith) (rw (count_is n n i 0 ev l (omega arith)) (omega arith))

chain_length_is : (n i : ℕ) (ev : List ℕ) → n ≤ length ev → chain_of ev n i ≡ length (map enter (chain (drop i (sees n ev)) 1).0)
unfolding chain_of
chain_length_is n i ev l = count_is n n i 0 ev l (omega arith) ∙ rw length-map (omega arith)

-- the events after a start's turn
rest_left : (n i m : ℕ) (ev st : List ℕ) (r : List ℕ × List ℕ) → n ≤ length ev → i < n → Entered n i m ev st r → drop (i + 1) (sees n r.0) ≡ (chain (drop (suc i) (sees n ev)) (next (view (get_or ev i 0)))).1
rest_left n i m ev st r l h o =
    let e : i + 1 ≡ length (take i (sees n ev)) + 1 = omega (arith, length-take-le i (sees n ev) (omega (arith, sees_length n ev l))) in
    rw (o.events, sees_at n ev l i h, chain_head, e)
    (drop-append-add (take i (sees n ev)) (clear (view (get_or ev i 0)) ∷ (chain (drop (suc i) (sees n ev)) (next (view (get_or ev i 0)))).1) 1)

pub start_own : (x : ℕ) (c : Bool) → eqb (tag_of x) START ≡ true → (own c (view x) ≡ []) × (is_split (view x) ≡ false)
unfolding view whether
start_own x c q = rw q (refl, refl)

other_view : (x : ℕ) → eqb (tag_of x) START ≡ false → (next (view x) ≡ 0) × (names (view x) ≡ [])
other_view x q = view_by x (λ e. (next e ≡ 0) × (names e ≡ [])) (λ p. absurd (false≢true (sym q ∙ p))) (λ _ _. (refl, refl)) (λ _ _ _. (refl, refl)) (λ _ _ _ _. (refl, refl)) (λ _ _ _ _. (refl, refl))

pass_other : (k n i : ℕ) (c : Bool) (ev : List ℕ) → n ≤ length ev → i < n → eqb (tag_of (get_or ev i 0)) START ≡ false
    → pass (suc k) c (drop i (sees n ev)) ≡ own c (view (get_or ev i 0)) ++ pass k (is_split (view (get_or ev i 0))) (drop (i + 1) (sees n ev))
pass_other k n i c ev l h q =
    let v = other_view (get_or ev i 0) q in
    rw (sees_at n ev l i h, pass_cons, v.0, chain_none, v.1, add-one)

pass_start : (k n i m : ℕ) (c : Bool) (ev st : List ℕ) (r : List ℕ × List ℕ) → n ≤ length ev → i < n → eqb (tag_of (get_or ev i 0)) START ≡ true → Entered n i m ev st r
    → pass (suc k) c (drop i (sees n ev)) ≡ map enter (chain (drop i (sees n ev)) 1).0 ++ pass k false (drop (i + 1) (sees n r.0))
pass_start k n i m c ev st r l h q o =
    let v = start_own (get_or ev i 0) c q in
    rw (rest_left n i m ev st r l h o, sees_at n ev l i h, chain_head, pass_cons, v.0, v.1)

start_close : (k n i m x : ℕ) (c : Bool) (ev st : List ℕ) (r : List ℕ × List ℕ) → n ≤ length ev → i < n → eqb (tag_of (get_or ev i 0)) START ≡ true → x ≡ length (map enter (chain (drop i (sees n ev)) 1).0) → Entered n i m ev st r
    → ◌≡◌ {A = ℕ × List ℕ} (m + x + length (pass k false (drop (i + 1) (sees n r.0))), sets r.1 (m + x) (map code_of (pass k false (drop (i + 1) (sees n r.0))))) (m + length (pass (suc k) c (drop i (sees n ev))), sets st m (map code_of (pass (suc k) c (drop i (sees n ev)))))
start_close k n i m x c ev st r l h q e o =
    rw (pass_start k n i m c ev st r l h q o, e, o.written) (wrote_on m st (map enter (chain (drop i (sees n ev)) 1).0) (pass k false (drop (i + 1) (sees n r.0))))

write_is : (k n i m : ℕ) (c : Bool) (ev st : List ℕ) (d : ℕ × List ℕ) → n ≤ length ev → n ≤ i + k
    → loops (suc k) (process_turn n) d (i, m, c, ev, st) ≡ (m + length (pass k c (drop i (sees n ev))), sets st m (map code_of (pass k c (drop i (sees n ev)))))
write_is zero n i m c ev st d l h = written_past zero n i m c ev st d l (omega arith) zero
write_is (suc k) n i m c ev st d l h = go (ltb i n) refl (eqb (tag_of (get_or ev i 0)) START) refl
    (λ m' c' ev' st' l'. write_is k n (i + 1) m' c' ev' st' d l' (omega arith))
  where
    go : (b : Bool) → ltb i n ≡ b → (t : Bool) → eqb (tag_of (get_or ev i 0)) START ≡ t
        → ((m' : ℕ) (c' : Bool) (ev' st' : List ℕ) → n ≤ length ev' → loops (suc k) (process_turn n) d (i + 1, m', c', ev', st') ≡ (m' + length (pass k c' (drop (i + 1) (sees n ev'))), sets st' m' (map code_of (pass k c' (drop (i + 1) (sees n ev'))))))
        → loops (suc (suc k)) (process_turn n) d (i, m, c, ev, st) ≡ (m + length (pass (suc k) c (drop i (sees n ev))), sets st m (map code_of (pass (suc k) c (drop i (sees n ev)))))
    go false b t q ih = written_past (suc k) n i m c ev st d l (ltb-false i n b) (suc k)
    go true b true q ih =
        let o = start_left n i m ev st l in
        loops_again (suc k) (process_turn n) d (i, m, c, ev, st) (turn_start n i m c ev st l (ltb-true i n b) q)
        ∙ ih (m + chain_of ev n i) false (enter_of ev st n i (m + chain_of ev n i)).0 (enter_of ev st n i (m + chain_of ev n i)).1 (omega (arith, o.size))
        ∙ start_close k n i m (chain_of ev n i) c ev st (enter_of ev st n i (m + chain_of ev n i)) l (ltb-true i n b) q (chain_length_is n i ev l) o
    go true b false q ih =
        loops_again (suc k) (process_turn n) d (i, m, c, ev, st) (turn_other n i m c ev st l (ltb-true i n b) q)
        ∙ ih (m + length (own c (view (get_or ev i 0)))) (is_split (view (get_or ev i 0))) ev (sets st m (map code_of (own c (view (get_or ev i 0))))) l
        ∙ rw (pass_other k n i c ev l (ltb-true i n b) q) (wrote_on m st (own c (view (get_or ev i 0))) (pass k (is_split (view (get_or ev i 0))) (drop (i + 1) (sees n ev))))

-- the pass in place: as many steps as the events have, and they stand first in the list
pub written : (n : ℕ) (ev st : List ℕ) → n ≤ length ev → write_of n ev st ≡ (length (steps (take n (map view ev))), sets st 0 (map code_of (steps (take n (map view ev)))))
unfolding write_of steps
written n ev st l = write_is n n 0 0 false ev st (0, st) l (omega arith) ∙ rw (sees_length n ev l, zero-add)
